-- `replay::decimal::skip` meets its contract. What is left of `rest` is left of s.
-- Assumes nothing.
use mathlib.Core.Path.{◌≡◌}
use Prim.Native.Nat.{◌≤◌}
use lib.ListN.{length}
use Rattle.replay.specs.Decimal.{blanks}
use Rattle.replay.proofs.decimal.skip.Given as goal

abbrev pub invariant-loop-b : goal.invariant-loop-b
invariant-loop-b l = (blanks l.rest ≡ blanks l.s) × (length l.rest ≤ length l.s)

abbrev pub decreases-loop-b : goal.decreases-loop-b
decreases-loop-b l = length l.rest
