-- `bits::find_bit` meets its contract. The invariant: no bit from a on below p is set. Assumes nothing.
use Prim.Native.Nat.{◌+◌, ◌-◌, ◌≤◌}
use Rattle.bits.proofs.RowLaws.{NoneTo}
use Rattle.bits.proofs.find_bit.Given as goal

abbrev pub invariant-loop-p : goal.invariant-loop-p
invariant-loop-p l = (l.a ≤ l.p) × (l.p ≤ l.e + 63) × NoneTo l.s l.a l.p

abbrev pub decreases-loop-p : goal.decreases-loop-p
decreases-loop-p l = l.e + 63 - l.p
