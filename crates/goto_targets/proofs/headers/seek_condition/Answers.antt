-- `goto_targets::headers::seek_condition` meets its contract. By its test.
-- Assumes nothing.
use borrow.Author.Rules.{rules}
use Rattle.goto_targets.proofs.HeaderRules.{conditions}
use Rattle.goto_targets.proofs.headers.seek_condition.Goals as goal

pub returns-in-Some : goal.returns-in-Some
returns-in-Some c = search (conditions, rules)
