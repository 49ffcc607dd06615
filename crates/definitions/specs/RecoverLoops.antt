-- Guarded do-while loops, to be read beside `recover_loops` of pseudo_types.rs.
--   recover_loops L    the listing with `if (C) { do { B } while (C); }` made `while (C) { B }`, or `for`
-- Assumes nothing.
use Rattle.std.specs.Prelude.{if◌then◌else◌, ℕ, ◌+◌, ◌-◌, Bool, ◌&&◌, not, List, eqb, leb, ltb, length, set, Option, None, Some}
use Rattle.definitions.specs.Lists.{◌>>=◌, require, all, position_from, part, remove, on_part, ◌≟◌, ends_with, ascii}
use Rattle.definitions.specs.Model.{Token, Line, pseudo_line, token, line, text}
use Rattle.definitions.specs.Statements.{is_kw, has_kw, is_label}
use Rattle.definitions.specs.Condition.{condition}
use Rattle.definitions.specs.ToFor.{to_for}
use Rattle.definitions.specs.Passes.{Turn, go, stop, beyond, Pass, pass, while_head, lone_brace}

-- Guard: first token keyword if, text ends `) {`.
abbrev pub is_guard : Line → Bool
is_guard l = is_kw (ascii "if") (token l 0) && ends_with (ascii ") {") (text l.tokens)

-- The condition of guard i where its close w is right: exactly one indent deeper, the same condition text under `while`, and a following `}`
-- at the guard's indent.
unfoldable pub guarded : List Line → ℕ → ℕ → Option (List Token)
guarded L i w = do
  let ind = (line L i).indent
  c1 ← condition (line L i) (ascii "if")
  c2 ← condition (line L w) (ascii "while")
  _ ← require (eqb (line L w).indent (ind + 1) && ltb (w + 1) (length L))
  _ ← require (eqb (line L (w + 1)).indent ind && lone_brace (line L (w + 1)) && (text c1 ≟ text c2))
  Some c1

abbrev pub move_out : Line → Line
move_out l = pseudo_line l.address (l.indent - 1) l.tokens

-- The guard becomes while, lines w and i + 1 go, the body moves out one.

abbrev pub unwrapped : List Line → ℕ → ℕ → List Token → List Line
unwrapped L i w c = remove (i + 1) (remove w (set L i (pseudo_line (line L i).address (line L i).indent (while_head c))))

unfoldable pub rebuilt : List Line → ℕ → ℕ → Turn
rebuilt M i end =
    if all (λ l. ltb 0 l.indent) (part (i + 1) end M) then go (i + 1) (to_for (on_part (i + 1) end move_out M) i)
    else beyond

unfoldable pub close_at : List Line → ℕ → ℕ → Turn
close_at L i w = elim (guarded L i w) [ None ↦ go (i + 1) L | Some c ↦ rebuilt (unwrapped L i w c) i (w - 1) ]

-- The close is the first non-label line from i + 2 with indent at most one above the guard's; if there is none the whole pass stops.
unfoldable pub close : List Line → ℕ → Turn
close L i = elim (position_from (i + 2) (λ l. leb l.indent ((line L i).indent + 1) && not (is_label l)) L) [
  | None ↦ stop
  | Some w ↦ close_at L i w
]

-- `ind + 1` is worked out wherever the next line has the keyword do, whatever line i itself is.
unfoldable pub loop_turn : List Line → ℕ → Turn
loop_turn L i =
    let ind = (line L i).indent in
    let next = line L (i + 1) in
    if has_kw next (ascii "do") && eqb ind 255 then beyond
    else if is_guard (line L i) && has_kw next (ascii "do") && eqb next.indent (ind + 1) then close L i
    else go (i + 1) L

abbrev pub recover_loops : List Line → Pass
recover_loops L = pass 1 loop_turn L
