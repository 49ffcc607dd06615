use Rattle.plan.proofs.Loops.{starting}
use borrow.Author.Rules.{rules}
use Rattle.plan.proofs.start.Goals as goal

pub loop-i-preserved : goal.loop-i-preserved
loop-i-preserved c = search (starting, rules)
