-- `questions::bound` meets its contract: none of the bytes passed is greater. Assumes nothing.
use Prim.Native.Nat.{◌-◌, ◌≤◌}
use lib.ListN.{length}
use Rattle.questions.specs.Bounds.{Bounded}
use Rattle.questions.proofs.bound.Given as goal

abbrev pub invariant-loop-byte : goal.invariant-loop-byte
invariant-loop-byte l = Bounded l.most l.byte-index l.s
