-- `emit::lines::add_while` meets its contract. Four pieces.
-- Assumes nothing.
use Rattle.append.proofs.Appends.{adds_four}
use Rattle.emit.proofs.lines.add_while.Goals as goal

pub add_test-requires : goal.add_test-requires
add_test-requires c = c.requires

pub returns : goal.returns
returns c = adds_four _ _ _ _ c.add.ensures c.add-2.ensures c.add_test.ensures c.add-3.ensures
