use Rattle.dot.proofs.WidthRules.{measuring_start, measuring_next, measuring_end}
use borrow.Author.Rules.{rules}
use Rattle.dot.proofs.widths.widest.Goals as goal

pub loop-i-init : goal.loop-i-init
loop-i-init c = measuring_start _ _

pub loop-i-preserved : goal.loop-i-preserved
loop-i-preserved c = search (measuring_next, rules)

pub returns : goal.returns
returns c = search (measuring_end, rules)
