-- The blanks from i on are not written yet.
use Prim.Native.Nat.{ℕ}
use mathlib.Core.List.{List}
use Rattle.definitions.specs.Lists.{ascii}
use Rattle.json_append.specs.Appended.{Begun}
use Rattle.rows.specs.Rows.{rows}
use Rattle.dot.proofs.node_labels.put_blanks.Given as goal

abbrev pub invariant-loop-i : goal.invariant-loop-i
invariant-loop-i l = let four : ℕ → List ℕ = λ i. ascii "&nbsp;&nbsp;&nbsp;&nbsp;" in Begun l.initial.to (rows four 0 l.d) l.to (rows four l.i l.d)
