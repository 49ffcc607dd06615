-- `loops::turns::plan_loops` meets its contract. What is left to do at place i is the whole pass.
-- Assumes nothing.
use Rattle.loops.proofs.Passing.{Running}
use Prim.Native.Nat.{◌-◌}
use lib.ListN.{length}
use Rattle.loops.proofs.turns.plan_loops.Given as goal

abbrev pub invariant-loop-i : goal.invariant-loop-i
invariant-loop-i l = Running l.keywords.code.lines.now l.keywords.code.tokens.now l.keywords.code.text.now l.initial.plan l.plan l.n l.i

abbrev pub decreases-loop-i : goal.decreases-loop-i
decreases-loop-i l = length l.keywords.code.lines.now - l.i
