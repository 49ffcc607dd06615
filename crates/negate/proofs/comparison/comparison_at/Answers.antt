-- `negate::comparison::comparison_at` meets its contract. At depth 0 it counts.
-- Assumes nothing.
use Rattle.negate.proofs.Scanning.{counts_here, counts_deep}
use borrow.Author.Rules.{rules}
use Rattle.negate.proofs.comparison.comparison_at.Goals as goal

pub comparison_of-requires : goal.comparison_of-requires
comparison_of-requires c = search (counts_here, counts_deep, rules)

pub returns-then-r : goal.returns-then-r
returns-then-r c = search (counts_here, counts_deep, rules)

pub returns : goal.returns
returns c = search (counts_here, counts_deep, rules)
