use Rattle.recover.proofs.RepresentativeRules.{representative_rules}
use borrow.Author.Rules.{rules}
use Rattle.recover.proofs.representatives.merge.Goals as goal

pub loop-r-preserved : goal.loop-r-preserved
loop-r-preserved c = search (representative_rules, rules)
