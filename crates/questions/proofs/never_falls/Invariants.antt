-- `questions::never_falls` meets its contract. Assumes nothing.
use Prim.Native.Nat.{◌-◌, ◌≤◌, ◌<◌}
use lib.ListN.{length}
use Rattle.questions.proofs.Asked.{Rising}
use Rattle.questions.proofs.never_falls.Given as goal

abbrev pub invariant-loop-i : goal.invariant-loop-i
invariant-loop-i l = (0 < l.i) × (l.i ≤ length l.ws) × Rising l.by l.ws l.i l.ok
