use Rattle.recover.proofs.RepresentativeRules.{marks_next}
use borrow.Author.Rules.{rules}
use Rattle.recover.proofs.representatives.mark_all.Goals as goal

pub loop-k-preserved : goal.loop-k-preserved
loop-k-preserved c = (search rules, marks_next _ _ _ _ _ c.loop-k.invariant.1 _ _ c.loop-k-test.true c.rep_of.ensures c.mark.ensures)
