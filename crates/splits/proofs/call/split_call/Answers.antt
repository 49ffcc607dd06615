-- `splits::call::split_call` meets its contract. Assumes nothing.
use mathlib.Core.Path.{◌∙◌}
use Rattle.splits.specs.Call.{lent}
use Rattle.splits.proofs.CallRules.{within_limits}
use Rattle.splits.proofs.call.split_call.Goals as goal

pub returns : goal.returns
returns c = let a = c.args in
    c.split_call_within.ensures ∙ within_limits a.code.now.lines.now a.code.now.tokens.now a.code.now.text.now (lent a.numbers.now a.marks.now)
