-- `goto_targets::seeking::step` meets its contract. What was found stays.
-- Assumes nothing.
use Rattle.goto_targets.proofs.SeekRules.{step_found}
use Rattle.goto_targets.proofs.seeking.step.Goals as goal

pub returns-in-Found : goal.returns-in-Found
returns-in-Found c = step_found _ _ c.args.t _ c.in-Found.is
