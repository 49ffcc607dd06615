-- `sweep::start` meets its contract. Assumes nothing.
use Rattle.visit.proofs.StepLaws.{start_lists}
use Rattle.sweep.proofs.start.Goals as goal

pub returns : goal.returns
returns c = start_lists _ _ _ _ _ _ c.args.layout.wide (rw c.next.ensures at c.clear_row.ensures.filled) (rw c.todo.ensures at c.fill_row.ensures)
