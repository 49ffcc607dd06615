-- `pseudo_ssa::recover_within` meets its contract. Assumes nothing.
use mathlib.Core.Path.{◌∙◌}
use borrow.Author.Rules.{rules}
use Rattle.questions.specs.Refusals.{at_most}
use Rattle.pseudo_ssa.proofs.Asking.{asked}
use Rattle.pseudo_ssa.proofs.Written.{within_answered, within_refused}
use Rattle.pseudo_ssa.proofs.recover_within.Goals as goal

pub answered-requires : goal.answered-requires
answered-requires c = let a = c.args in
    asked (at_most a.most) a.code.now.lines.now a.code.now.tokens.now a.code.now.text.now a.numbers.now a.marks.now a.space.now c.in_ok-refusal.ensures c.requires.0 c.requires.1

pub returns : goal.returns
returns c = let a = c.args in
    c.answered.ensures ∙ within_answered (at_most a.most) a.budget a.code.now.lines.now a.code.now.tokens.now a.code.now.text.now a.numbers.now a.marks.now a.space.now c.in_ok-refusal.ensures

pub returns-in_err-refusal : goal.returns-in_err-refusal
returns-in_err-refusal c = let a = c.args in
    let e = within_refused (at_most a.most) a.budget a.code.now.lines.now a.code.now.tokens.now a.code.now.text.now a.numbers.now a.marks.now a.space.now _ c.in_err-refusal.ensures in search rules
