-- A pass over a growing and shrinking list of lines: the `while` loop of `recover_loops` and `recover_goto_loops`.
--   Turn                 what one turn of the loop does: go on at a line with a listing, stop the whole pass, or work out an indent beyond 0 to 255
--   Pass                 what the pass answers: the listing, or that overflow
--   pass gap turn L      turns from line 0 on, while `gap` lines stand behind the line
--   while_head c         the tokens of `while (c) {`
--   lone_brace l         line l reads `}`
-- Assumes nothing.
use Rattle.std.specs.Prelude.{ℕ, zero, suc, ◌+◌, Bool, true, false, List, [], ◌∷◌, ◌++◌, ltb, length}
use Rattle.definitions.specs.Lists.{◌≟◌, ascii}
use Rattle.definitions.specs.Model.{Token, Line, tok, text, Keyword, Punct}

pub data Turn : Type 0 where
  go : ℕ → List Line → Turn
  stop : Turn
  beyond : Turn

pub data Pass : Type 0 where
  lines : List Line → Pass
  overflow : Pass

-- Each turn leaves fewer lines behind its line than the one before, so as many turns as lines are enough.
unfoldable pub turns : ℕ → (List Line → ℕ → Turn) → ℕ → ℕ → List Line → Pass
turns gap turn zero i L = lines L
turns gap turn (suc k) i L = elim (ltb (i + gap) (length L)) [
  | false ↦ lines L
  | true ↦ elim (turn L i) [ go j M ↦ turns gap turn k j M | stop ↦ lines L | beyond ↦ overflow ]
]

abbrev pub pass : ℕ → (List Line → ℕ → Turn) → List Line → Pass
pass gap turn L = turns gap turn (length L) 0 L

abbrev pub while_head : List Token → List Token
while_head c = tok (ascii "while") Keyword ∷ tok (ascii " (") Punct ∷ (c ++ (tok (ascii ") {") Punct ∷ []))

abbrev pub lone_brace : Line → Bool
lone_brace l = text l.tokens ≟ ascii "}"
