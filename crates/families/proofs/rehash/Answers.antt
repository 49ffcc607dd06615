use Rattle.families.proofs.Numbered.{rehash_rules}
use borrow.Author.Rules.{rules}
use Rattle.families.proofs.rehash.Goals as goal

pub loop-k-init : goal.loop-k-init
loop-k-init c = search (rehash_rules, rules)

pub loop-k-preserved : goal.loop-k-preserved
loop-k-preserved c = search (rehash_rules, rules)
