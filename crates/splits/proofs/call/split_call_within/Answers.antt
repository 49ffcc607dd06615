-- `splits::call::split_call_within` meets its contract. Assumes nothing.
use Rattle.questions.specs.Refusals.{at_most}
use borrow.Author.Rules.{rules}
use Rattle.splits.proofs.CallRules.{room, accepts, refuses}
use Rattle.splits.proofs.call.split_call_within.Goals as goal

pub returns-in_err-ask : goal.returns-in_err-ask
returns-in_err-ask c = let a = c.args in
    let e = refuses (at_most a.most) a.code.now.lines.now a.code.now.tokens.now a.code.now.text.now a.numbers.now a.marks.now _ c.in_err-ask.ensures in search rules

pub split_numbers-requires : goal.split_numbers-requires
split_numbers-requires c = let a = c.args in
    room (at_most a.most) a.code.now.lines.now a.code.now.tokens.now a.code.now.text.now _ _ c.in_ok-ask.ensures c.requires

pub returns : goal.returns
returns c = let a = c.args in
    accepts (at_most a.most) a.code.now.lines.now a.code.now.tokens.now a.code.now.text.now a.numbers.now a.marks.now c.in_ok-ask.ensures _ _ c.split_numbers.ensures.numbers_after c.split_numbers.ensures.marks_after
