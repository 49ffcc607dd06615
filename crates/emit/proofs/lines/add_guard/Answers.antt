-- `emit::lines::add_guard` meets its contract. Four pieces.
-- Assumes nothing.
use Rattle.append.proofs.Appends.{adds_four}
use Rattle.emit.proofs.lines.add_guard.Goals as goal

pub returns : goal.returns
returns c = adds_four _ _ _ _ c.add.ensures c.add-2.ensures c.add_condition.ensures c.add-3.ensures
