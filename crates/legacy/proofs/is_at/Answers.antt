-- `legacy::is_at` meets its contract: the table is right, as is computed.
-- Assumes nothing.
use Rattle.definitions.specs.Lists.{◌≟◌, all, range, concat}
use Rattle.definitions.specs.Family.{legacy}
use Rattle.legacy.specs.Table.{all_names}
use Rattle.legacy.proofs.Table.{cell_is}
use borrow.Author.Rules.{rules}
use Rattle.legacy.proofs.is_at.Goals as goal

pub returns : goal.returns
unfolding all range ◌≟◌ concat legacy all_names
returns c = search (cell_is, rules)
