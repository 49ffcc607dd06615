-- `choose::choose` meets its contract. Assumes nothing.
use mathlib.Core.Path.{◌∙◌}
use Rattle.choose.proofs.Choosing.{of_limits}
use Rattle.choose.proofs.choose.Goals as goal

pub returns : goal.returns
returns c = let a = c.args in
    c.choose_within.ensures ∙ of_limits a.code.now.lines.now a.code.now.tokens.now a.code.now.text.now _
