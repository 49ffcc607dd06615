-- `bits::or_row` meets its contract. The invariant: the first k words are filled. Assumes nothing.
use mathlib.Core.Path.{◌≡◌}
use lib.ListN.{length}
use Rattle.bits.specs.Rows.{Filled, joined}
use Rattle.bits.proofs.or_row.Given as goal

abbrev pub invariant-loop-k : goal.invariant-loop-k
invariant-loop-k l = (length l.s ≡ length l.initial.s) × Filled l.initial.s l.s l.w l.k (joined l.initial.s l.w l.u)
