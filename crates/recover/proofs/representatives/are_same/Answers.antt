use Rattle.text.proofs.Loops.{loops}
use borrow.Author.Rules.{rules}
use Rattle.recover.proofs.representatives.are_same.Goals as goal

pub loop-k-preserved : goal.loop-k-preserved
loop-k-preserved c = search (loops, rules)

pub returns-then-not-is_same : goal.returns-then-not-is_same
returns-then-not-is_same c = search (loops, rules)

pub returns : goal.returns
returns c = search (loops, rules)
