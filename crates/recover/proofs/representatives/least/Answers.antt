use Rattle.recover.proofs.RepresentativeRules.{representative_rules}
use borrow.Author.Rules.{rules}
use Rattle.recover.proofs.representatives.least.Goals as goal

pub loop-k-init : goal.loop-k-init
loop-k-init c = search (representative_rules, rules)

pub loop-k-preserved : goal.loop-k-preserved
loop-k-preserved c = search (representative_rules, rules)
