-- `bits::copy_row` meets its contract. The invariant: the first i words are copied. Assumes nothing.
use mathlib.Core.Path.{◌≡◌}
use lib.ListN.{length}
use Rattle.bits.specs.Rows.{Filled, copied}
use Rattle.bits.proofs.copy_row.Given as goal

abbrev pub invariant-loop-i : goal.invariant-loop-i
invariant-loop-i l = (length l.s ≡ length l.initial.s) × Filled l.initial.s l.s l.w l.i (copied l.initial.s l.u)
