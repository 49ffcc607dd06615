-- `recover::representatives::link` meets its contract. The marks start at 0. Assumes nothing.
use Rattle.recover.proofs.RepresentativeRules.{representative_rules}
use borrow.Author.Rules.{rules}
use Rattle.recover.proofs.representatives.link.Goals as goal

pub returns : goal.returns
returns c = search (representative_rules, rules)
