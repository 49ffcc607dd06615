-- `visit::layout::Definitions::step_line` meets its contract. Assumes nothing.
use Rattle.visit.proofs.StepLaws.{visit_agree, visit_full, step_changed}
use borrow.Author.Rules.{rules}
use Rattle.visit.proofs.layout.Definitions.step_line.Goals as goal

pub mark-requires : goal.mark-requires
mark-requires c = let wide = c.args.self.now.layout.wide in
    (search rules, c.requires.1, visit_agree _ _ _ _ _ _ _ _ wide c.visit_line-changed.ensures c.requires.2, λ e. visit_full _ _ _ _ _ _ _ _ wide c.visit_line-changed.ensures (c.requires.3 e))

pub returns-then-changed : goal.returns-then-changed
returns-then-changed c = rw c.if-changed.true (step_changed _ _ _ _ _ _ _ _ c.args.self.now.layout.wide c.visit_line-changed.ensures _ c.requires.1 c.if-changed.true c.mark.ensures)
