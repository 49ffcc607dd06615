use Rattle.plan.proofs.Loops.{moving}
use borrow.Author.Rules.{rules}
use Rattle.plan.proofs.move_out.Goals as goal

pub loop-k-preserved : goal.loop-k-preserved
loop-k-preserved c = search (moving, rules)
