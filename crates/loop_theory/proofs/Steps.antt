-- What a loop pass does to a listing, as rewriting of the whole: four steps, one after the other.
--   Step L M        the listing M is L with one loop made
--   Steps L M       M is L after any number of steps
--   Turned L i t    the turn t at line i of L goes on at line i + 1 after steps, or stops, or overflows
-- Assumes nothing.
use Rattle.std.specs.Prelude.{Option, Some}
use Prim.Native.Nat.{ℕ, ◌+◌}
use mathlib.Core.Path.{◌≡◌}
use mathlib.Core.Bool.{true}
use mathlib.Core.List.{List, ◌∷◌, ◌++◌, map}
use lib.Dec.{ltb}
use Rattle.definitions.specs.Lists.{all, ascii}
use Rattle.definitions.specs.Model.{Token, Line, pseudo_line}
use Rattle.definitions.specs.Statements.{is_label, merge}
use Rattle.definitions.specs.Condition.{condition}
use Rattle.definitions.specs.ToFor.{for_head}
use Rattle.definitions.specs.Passes.{Turn, go, stop, beyond, while_head}
use Rattle.definitions.specs.RecoverLoops.{move_out}
use Rattle.definitions.specs.RecoverGotoLoops.{jump, move_in, closed_at, leading_test, one}

-- the line with the tokens ts at indent d, in place of the line l
abbrev pub header_at : Line → ℕ → List Token → Line
header_at l d ts = pseudo_line l.address d ts

-- a line of a label's body, rewritten and moved in
abbrev pub body_line : List ℕ → Option (List ℕ) → Line → Line
body_line name exit l = move_in (jump name exit l)

pub data Step : List Line → List Line → Type 0 where
  -- guard; do; body; close; `}` becomes while; body; `}`
  unwrap : (before body after : List Line) (guard do_line close : Line) (c : List Token) → condition guard (ascii "if") ≡ Some c
      → Step (before ++ (guard ∷ (do_line ∷ (body ++ (close ∷ after)))))
      (before ++ (header_at guard guard.indent (while_head c) ∷ (map move_out body ++ after)))
  -- label; body; back edge becomes while (1); body; `}`
  enclose : (before body after : List Line) (head back : Line) (name : List ℕ) (exit : Option (List ℕ)) → is_label head ≡ true
      → all (λ l. ltb l.indent 255) body ≡ true → ltb (head.indent + 1) 255 ≡ true
      → Step (before ++ (head ∷ (body ++ (back ∷ after))))
      (before ++ (header_at head (head.indent + 1) (merge (while_head one))
      ∷ (map (body_line name exit) body ++ (closed_at back (head.indent + 1) ∷ after))))
  -- label; leading test; body; back edge becomes while; body; `}`
  enclose_tested : (before body after : List Line) (head test back : Line) (name : List ℕ) (exit : Option (List ℕ)) (c : List Token)
      → is_label head ≡ true → all (λ l. ltb l.indent 255) body ≡ true → ltb (head.indent + 1) 255 ≡ true
      → leading_test (body_line name exit test) (head.indent + 1) ≡ Some c
      → Step (before ++ (head ∷ (test ∷ (body ++ (back ∷ after)))))
      (before ++ (header_at head (head.indent + 1) (merge (while_head c))
      ∷ (map (body_line name exit) body ++ (closed_at back (head.indent + 1) ∷ after))))
  -- initialiser; lines; while; body; step becomes lines; for; body
  count : (before between body after : List Line) (init loop step : Line) (c : List Token) → condition loop (ascii "while") ≡ Some c
      → Step (before ++ (init ∷ (between ++ (loop ∷ (body ++ (step ∷ after))))))
      (before ++ (between ++ (header_at loop loop.indent (for_head init.tokens c step.tokens) ∷ (body ++ after))))

pub data Steps (L : List Line) : List Line → Type 0 where
  unchanged : Steps L L
  then : {M N : List Line} → Steps L M → Step M N → Steps L N

pub data Turned (L : List Line) (i : ℕ) : Turn → Type 0 where
  goes : {M : List Line} → Steps L M → Turned L i (go (i + 1) M)
  stops : Turned L i stop
  overflows : Turned L i beyond
