-- `sweep::turn` meets its contract. Assumes nothing.
use Rattle.visit.proofs.StepLaws.{turn_lists}
use Rattle.sweep.proofs.turn.Goals as goal

pub returns : goal.returns
returns c = turn_lists _ _ _ _ _ c.args.layout.wide (rw (c.todo.ensures, c.next-next.ensures) at c.copy_row.ensures) (rw c.next-next.ensures at c.clear_row.ensures.filled)
