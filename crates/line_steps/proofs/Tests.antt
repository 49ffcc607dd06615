-- Rules for `search` at the tests of a line's keywords and braces.
--   contains_of    what is said of a part, said of the text that the part is
--   no_case        a line without the keywords `case` and `default`
-- Assumes nothing.
use Prim.Native.Nat.{ℕ}
use mathlib.Core.Path.{◌≡◌, refl, sym, ◌∙◌}
use mathlib.Core.Bool.{Bool, false, ◌||◌}
use mathlib.Core.List.{List, [], ◌∷◌}
use lib.ListN.{get_or}
use Rattle.definitions.specs.Lists.{any, contains, ascii}
use Rattle.definitions.specs.Model.{Token, Line, token, no_token}
use Rattle.definitions.specs.Statements.{is_kw, has_kw}
use Rattle.definitions.specs.FlowGraph.{is_case}
use Rattle.line_keywords.proofs.NoGotos.{neither}

pub contains_of : (r : Bool) (s t : List ℕ) (b : ℕ) → r ≡ contains b s → s ≡ t → r ≡ contains b t
contains_of r s t b e q = e ∙ rw q

-- a line without the keyword does not start with it
not_first : (w : List ℕ) (l : Line) → has_kw l w ≡ false → is_kw w (token l 0) ≡ false
unfolding has_kw any
not_first w l e = go l.tokens e
  where
    go : (ts : List Token) → any (is_kw w) ts ≡ false → is_kw w (get_or ts 0 no_token) ≡ false
    go [] e = refl
    go (t ∷ ts) e = (neither (is_kw w t) (any (is_kw w) ts) e).0

pub no_case : (l : Line) (b : Bool) → b ≡ (has_kw l (ascii "case") || has_kw l (ascii "default")) → b ≡ false → false ≡ is_case l
no_case l b e f =
    let h = neither (has_kw l (ascii "case")) (has_kw l (ascii "default")) (sym e ∙ f) in
    rw (not_first (ascii "case") l h.0, not_first (ascii "default") l h.1)
