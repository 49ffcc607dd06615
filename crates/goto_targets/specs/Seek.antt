-- The target of a line's first goto, looked for token by token.
--   Seek             no goto yet; a goto, and no symbol behind it yet; the text of that symbol
--   step s t         what the token t makes of it
--   seek s ts        what the tokens ts make of it, one after the other
--   target s         the target that was found
--   told s           what the code's answer s says
-- Assumes nothing.
use Rattle.std.specs.Prelude.{if◌then◌else◌, ℕ, List, [], ◌∷◌, eqb, Option, None, Some}
use Rattle.definitions.specs.Lists.{ascii}
use Rattle.definitions.specs.Model.{Token, Symbol}
use Rattle.definitions.specs.Statements.{is_kw}
use Rattle.goto_targets.specs.declared.seeking.State.{State}
use Rattle.goto_targets.specs.declared.seeking.State.TheVariants.{Looking, Waiting, Found}

pub data Seek : Type 0 where
  looking : Seek
  waiting : Seek
  found : List ℕ → Seek

unfoldable pub step : Seek → Token → Seek
step looking t = if is_kw (ascii "goto") t then waiting else looking
step waiting t = if eqb t.kind Symbol then found t.text else waiting
step (found s) t = found s

unfoldable pub seek : Seek → List Token → Seek
seek s [] = s
seek s (t ∷ ts) = seek (step s t) ts

abbrev pub target : Seek → Option (List ℕ)
target looking = None
target waiting = None
target (found s) = Some s

abbrev pub told : State → Seek
told Looking = looking
told Waiting = waiting
told (Found x) = found x.now
