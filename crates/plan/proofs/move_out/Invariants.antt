-- `plan::move_out` meets its contract. Line by line.
-- Assumes nothing.
use Rattle.plan.proofs.Loops.{Moving}
use Rattle.plan.proofs.move_out.Given as goal

abbrev pub invariant-loop-k : goal.invariant-loop-k
invariant-loop-k l = Moving l.n l.a l.e l.initial.plan l.plan l.k
