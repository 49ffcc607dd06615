-- The edges from the lines from i on are not written yet.
use Prim.Native.Nat.{ℕ}
use mathlib.Core.List.{List}
use Rattle.bits.specs.Edges.{succs}
use Rattle.json_append.specs.Appended.{Begun}
use Rattle.rows.specs.Rows.{rows}
use Rattle.dot.specs.Dot.{edge}
use Rattle.dot.proofs.edges.put_edges.Given as goal

abbrev pub invariant-loop-i : goal.invariant-loop-i
invariant-loop-i l =
    let from_line : ℕ → List ℕ = λ i. rows (λ j. edge (succs l.n 17 l.space i j) i j) 0 l.n in
    Begun l.initial.to (rows from_line 0 l.n) l.to (rows from_line l.i l.n)
