-- `loops::turns::unwrap` meets its contract. By its three changes.
-- Assumes nothing.
use Rattle.loops.proofs.Unwrapped.{words_tests, words_moved}
use native.Mathlib.Omega.{arith}
use lib.ListN.{length-set}
use Rattle.loops.proofs.turns.unwrap.Goals as goal

pub overflow_add-plan : goal.overflow_add-plan
overflow_add-plan c = omega (arith, c.slice_known-1.given c.args.i)

pub move_out-requires : goal.move_out-requires
move_out-requires c = (omega arith, omega arith, omega (arith, simp length-set at c.remove_two.auto.plan))

pub returns : goal.returns
returns c = let p = c.requires in record { value = words_tests _ _ _ _ _ p.0 p.1 c.remove_two.ensures _ c.move_out.ensures.value; plan_after = λ e. words_moved _ _ _ _ _ p.0 p.1 c.remove_two.ensures _ (c.move_out.ensures.plan_after e) }
