-- `negate::comparison::scan_text` meets its contract. The answer is what the bytes from i on make of what is seen so far.
-- Assumes nothing.
use Rattle.negate.specs.Comparisons.{seen, weight}
use Rattle.definitions.specs.Condition.{scan_text}
use lib.ListN.{length, drop}
use Prim.Native.Nat.{◌+◌, ◌-◌, ◌*◌, ◌≤◌}
use mathlib.Core.Path.{◌≡◌}
use Rattle.negate.proofs.comparison.scan_text.Given as goal

abbrev pub invariant-loop-i : goal.invariant-loop-i
invariant-loop-i l = (l.i ≤ length l.s) × (scan_text l.place 0 0 l.s (seen l.initial.r) ≡ scan_text l.place l.i 0 (drop l.i l.s) (seen l.r)) × (weight l.r ≤ weight l.initial.r + 3 * l.i)

abbrev pub decreases-loop-i : goal.decreases-loop-i
decreases-loop-i l = length l.s - l.i
