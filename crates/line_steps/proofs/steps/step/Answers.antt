-- `line_steps::steps::step` meets its contract. Assumes nothing.
use Rattle.line_steps.proofs.Drawings.{drawn_step, drawn_past}
use Rattle.line_steps.proofs.steps.step.Goals as goal

pub returns-then-q-n : goal.returns-then-q-n
returns-then-q-n c = drawn_step c.args.n c.args.r c.args.p c.args.q _ _ c.add_edge.ensures

pub returns-else-q-n : goal.returns-else-q-n
returns-else-q-n c = drawn_past c.args.n c.args.r c.args.p c.args.q _ c.if-q-n.false
