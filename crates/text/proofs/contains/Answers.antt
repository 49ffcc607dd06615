-- `text::contains` meets its contract.
-- Assumes nothing.
use mathlib.Core.Path.{◌∙◌}
use Rattle.text.proofs.Texts.{any_contains}
use Rattle.text.proofs.contains.Goals as goal

pub returns : goal.returns
returns c = c.contains.ensures.value ∙ any_contains c.args.b c.args.s.now
