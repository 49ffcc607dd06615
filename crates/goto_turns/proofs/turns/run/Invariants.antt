-- `goto_turns::turns::run` meets its contract. What is left to do at place h is the whole pass.
-- Assumes nothing.
use Rattle.goto_turns.proofs.Passing.{Running}
use Prim.Native.Nat.{◌-◌}
use lib.ListN.{length}
use Rattle.goto_turns.proofs.turns.run.Given as goal

abbrev pub invariant-loop-h : goal.invariant-loop-h
invariant-loop-h l = Running l.code.lines.now l.code.tokens.now l.code.text.now l.initial.plan l.plan l.n l.h

abbrev pub decreases-loop-h : goal.decreases-loop-h
decreases-loop-h l = length l.code.lines.now - l.h
