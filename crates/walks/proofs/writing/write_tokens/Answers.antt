use Rattle.walks.proofs.WriteRules.{write_rules}
use borrow.Author.Rules.{rules}
use Rattle.walks.proofs.writing.write_tokens.Goals as goal

pub loop-p-init : goal.loop-p-init
loop-p-init c = search (write_rules, rules)

pub loop-p-smaller : goal.loop-p-smaller
loop-p-smaller c = search (write_rules, rules)

pub loop-p-preserved : goal.loop-p-preserved
loop-p-preserved c = search (write_rules, rules)
