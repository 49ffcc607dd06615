-- `families::is_some` meets its contract. By the kind of the answer.
-- Assumes nothing.
use Rattle.families.proofs.Hashes.{hash_rules}
use borrow.Author.Rules.{rules}
use Rattle.families.proofs.is_some.Goals as goal

pub returns-in-Some-Legacy : goal.returns-in-Some-Legacy
returns-in-Some-Legacy c = λ s. search (hash_rules, rules)

pub returns-in-Some-Numbered : goal.returns-in-Some-Numbered
returns-in-Some-Numbered c = λ s. search (hash_rules, rules)
