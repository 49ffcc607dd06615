-- `replay::decimal::digits` meets its contract. The digits of `rest`, behind v, decide.
-- Assumes nothing.
use mathlib.Core.Path.{◌≡◌}
use Prim.Native.Nat.{◌≤◌}
use lib.ListN.{length}
use Rattle.replay.specs.Decimal.{digits}
use Rattle.replay.proofs.decimal.digits.Given as goal

abbrev pub invariant-loop-b : goal.invariant-loop-b
invariant-loop-b l = (digits l.v l.rest ≡ digits 0 l.s) × (length l.rest ≤ length l.s)

abbrev pub decreases-loop-b : goal.decreases-loop-b
decreases-loop-b l = length l.rest
