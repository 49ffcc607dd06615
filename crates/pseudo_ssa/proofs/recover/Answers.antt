-- `pseudo_ssa::recover` meets its contract. Assumes nothing.
use mathlib.Core.Path.{◌∙◌}
use native.Mathlib.Omega.{arith}
use Rattle.definitions.specs.Questions.{limits}
use Rattle.pseudo_ssa.specs.Answers.{lent}
use Rattle.pseudo_ssa.proofs.Budget.{within_enough, of_limits}
use Rattle.pseudo_ssa.proofs.Demand.{of_numbers}
use Rattle.pseudo_ssa.proofs.recover.Goals as goal

pub returns : goal.returns
returns c = let a = c.args in
    let W = c.recover_within in
    let o = lent a.numbers.now a.marks.now a.space.now in
    let equation = W.ensures ∙ within_enough limits a.code.now.lines.now a.code.now.tokens.now a.code.now.text.now o (omega arith) ∙ of_limits a.code.now.lines.now a.code.now.tokens.now a.code.now.text.now o in record { space_after = equation; by_index = of_numbers a.code.now.lines.now a.code.now.tokens.now a.code.now.text.now o W.result _ _ _ equation }
