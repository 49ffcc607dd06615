-- The edges to the lines from j on are not written yet.
use Prim.Native.Nat.{ℕ}
use mathlib.Core.List.{List}
use Rattle.bits.specs.Edges.{succs}
use Rattle.json_append.specs.Appended.{Begun}
use Rattle.rows.specs.Rows.{rows}
use Rattle.dot.specs.Dot.{edge}
use Rattle.dot.proofs.edges.put_from.Given as goal

abbrev pub invariant-loop-j : goal.invariant-loop-j
invariant-loop-j l = let to_line : ℕ → List ℕ = λ j. edge (succs l.n 17 l.space l.i j) l.i j in Begun l.initial.to (rows to_line 0 l.n) l.to (rows to_line l.j l.n)
