use Rattle.recover.proofs.RepresentativeRules.{representative_rules}
use borrow.Author.Rules.{rules}
use Rattle.recover.proofs.representatives.alone.Goals as goal

pub loop-d-preserved : goal.loop-d-preserved
loop-d-preserved c = search (representative_rules, rules)
