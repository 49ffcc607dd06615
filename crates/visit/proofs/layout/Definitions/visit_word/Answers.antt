-- `visit::layout::Definitions::visit_word` meets its contract. Assumes nothing.
use Rattle.visit.proofs.LayoutLaws.{room_by}
use Rattle.visit.proofs.StepLaws.{visit_word}
use Rattle.visit.proofs.layout.Definitions.visit_word.Goals as goal

pub returns : goal.returns
returns c = let one = c.requires.1 in
    visit_word _ _ _ _ _ _ _ _ c.requires.2 (rw one at (room_by c.args.self.now.layout _ c.requires.0)) (rw one at c.given_word-x.ensures) _ c.base.ensures c.put.ensures
