-- `walks::reads::lines_take` meets its contract. No token before place p takes the address.
-- Assumes nothing.
use Prim.Native.Nat.{◌-◌}
use lib.ListN.{length}
use Rattle.walks.specs.Lines.{Untaken}
use Rattle.walks.proofs.reads.lines_take.Given as goal

abbrev pub invariant-loop-p : goal.invariant-loop-p
invariant-loop-p l = Untaken l.code.lines.now l.code.tokens.now l.code.text.now l.k l.p

abbrev pub decreases-loop-p : goal.decreases-loop-p
decreases-loop-p l = length l.code.tokens.now - l.p
