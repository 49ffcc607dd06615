-- `walks::reads::address_taken` meets its contract. By the tests.
-- Assumes nothing.
use Rattle.walks.proofs.Taken.{taken_rules}
use borrow.Author.Rules.{rules}
use Rattle.walks.proofs.reads.address_taken.Goals as goal

pub returns-then-lines_take : goal.returns-then-lines_take
returns-then-lines_take c = search (taken_rules, rules)
