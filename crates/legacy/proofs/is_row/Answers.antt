-- `legacy::is_row` meets its contract.
-- Assumes nothing.
use Rattle.definitions.specs.Lists.{◌≟◌, all, range}
use Rattle.definitions.specs.Family.{legacy}
use Rattle.legacy.proofs.Table.{first_row}
use borrow.Author.Rules.{rules}
use Rattle.legacy.proofs.is_row.Goals as goal

pub returns : goal.returns
unfolding all range ◌≟◌ legacy
returns c = search (first_row, rules)
