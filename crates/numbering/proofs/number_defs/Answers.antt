use Rattle.numbering.proofs.LineRules.{line_rules}
use borrow.Author.Rules.{rules}
use Rattle.numbering.proofs.number_defs.Goals as goal

pub loop-i-preserved : goal.loop-i-preserved
loop-i-preserved c = search (line_rules, rules)
