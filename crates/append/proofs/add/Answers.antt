-- `append::add` meets its contract. Either way of the writer.
-- Assumes nothing.
use Rattle.append.proofs.Appends.{adds_token, adds_merged}
use Rattle.append.proofs.add.Goals as goal

pub returns-then-merged : goal.returns-then-merged
returns-then-merged c = adds_merged _ _ c.if-merged.true c.add_merged.ensures

pub returns-else-merged : goal.returns-else-merged
returns-else-merged c = adds_token _ _ c.if-merged.false c.add_token.ensures
