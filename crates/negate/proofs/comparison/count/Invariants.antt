-- `negate::comparison::count` meets its contract. The answer is what is counted so far and what is left to count.
-- Assumes nothing.
use Rattle.negate.specs.Comparisons.{occurs}
use lib.ListN.{length, drop}
use Prim.Native.Nat.{◌+◌, ◌≤◌}
use mathlib.Core.Path.{◌≡◌}
use Rattle.negate.proofs.comparison.count.Given as goal

abbrev pub invariant-loop-k : goal.invariant-loop-k
invariant-loop-k l = (l.k ≤ length l.s) × (occurs l.b l.s ≡ l.n + occurs l.b (drop l.k l.s)) × (l.n ≤ l.k)
