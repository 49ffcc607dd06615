-- `visit::layout::Layout::mark_back` meets its contract. Assumes nothing.
use Rattle.visit.proofs.StepLaws.{back_none, back_by}
use Rattle.visit.proofs.layout.Layout.mark_back.Goals as goal

pub returns-then-own-x : goal.returns-then-own-x
returns-then-own-x c = back_none _ _ _ _ _ c.args.space.now _ c.args.self.wide c.requires.1 c.succs-s.ensures.0 c.requires.2 c.if-own-x.true

pub returns : goal.returns
returns c = back_by _ _ _ _ _ _ _ c.args.self.wide c.requires.1 c.succs-s.ensures.0 c.requires.2 _ c.next.ensures c.if-own-x.false c.or_low.ensures
