-- `plan::start` meets its contract. Line by line.
-- Assumes nothing.
use Rattle.plan.proofs.Loops.{Starting}
use Rattle.plan.proofs.start.Given as goal

abbrev pub invariant-loop-i : goal.invariant-loop-i
invariant-loop-i l = Starting l.lines l.initial.plan l.plan l.i
