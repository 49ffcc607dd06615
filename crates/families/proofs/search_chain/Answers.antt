use Rattle.families.proofs.Finding.{search_rules}
use borrow.Author.Rules.{rules}
use Rattle.families.proofs.search_chain.Goals as goal

pub loop-c-init : goal.loop-c-init
loop-c-init c = search (search_rules, rules)

pub loop-c-smaller : goal.loop-c-smaller
loop-c-smaller c = search (search_rules, rules)

pub loop-c-preserved : goal.loop-c-preserved
loop-c-preserved c = search (search_rules, rules)

pub returns : goal.returns
returns c = search (search_rules, rules)
