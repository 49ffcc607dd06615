-- `labels::has_label` meets its contract. Assumes nothing.
use borrow.Author.Rules.{rules}
use Rattle.definitions.specs.Statements.{is_label}
use Rattle.model.proofs.Ands.{ands}
use Rattle.labels.proofs.has_label.Goals as goal

pub returns-else-token_count-eq2 : goal.returns-else-token_count-eq2
unfolding is_label
returns-else-token_count-eq2 c = search (ands, rules) depth 8
