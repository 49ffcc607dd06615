-- `recover::sets::first_reaching` meets its contract. By its calls. Assumes nothing.
use Rattle.recover.proofs.SetRules.{set_rules}
use borrow.Author.Rules.{rules}
use Rattle.recover.proofs.sets.first_reaching.Goals as goal

pub returns-else-q-e : goal.returns-else-q-e
returns-else-q-e c = search (set_rules, rules)
