-- `visit::layout::Layout::mark` meets its contract. Assumes nothing.
use Rattle.visit.proofs.StepLaws.{ahead_between}
use borrow.Author.Rules.{rules}
use Rattle.visit.proofs.layout.Layout.mark.Goals as goal

pub mark_back-requires : goal.mark_back-requires
mark_back-requires c = (search rules, c.requires.1, ahead_between _ _ _ _ _ c.args.self.wide c.requires.1 c.mark_ahead.ensures _ c.succs_span-x.ensures)
