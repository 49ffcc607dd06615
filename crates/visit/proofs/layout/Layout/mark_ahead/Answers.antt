-- `visit::layout::Layout::mark_ahead` meets its contract. Assumes nothing.
use Rattle.visit.proofs.StepLaws.{ahead_full, ahead_by}
use Rattle.visit.proofs.layout.Layout.mark_ahead.Goals as goal

pub returns-then-first : goal.returns-then-first
returns-then-first c = ahead_full _ _ _ _ (c.requires.3 c.if-first.true)

pub returns : goal.returns
returns c = ahead_by _ _ _ _ _ _ _ c.args.self.wide c.requires.1 c.succs-s.ensures.0 c.requires.2 _ c.todo.ensures c.or_row.ensures
