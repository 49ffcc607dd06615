-- `replay::columns::read` is safe, ends, and reads onward.
-- Assumes nothing.
use Prim.Native.Nat.{◌≤◌}
use lib.ListN.{length}
use Rattle.replay.proofs.columns.read.Given as goal

abbrev pub invariant-loop-i : goal.invariant-loop-i
invariant-loop-i g l = length l.rest ≤ length l.s
