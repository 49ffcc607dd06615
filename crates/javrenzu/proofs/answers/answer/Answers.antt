-- `javrenzu::answers::answer` meets its contract.
-- Assumes nothing.
use Rattle.javrenzu.proofs.Rules.{room_filled, read_said, read_refused}
use Rattle.javrenzu.proofs.answers.answer.Goals as goal

pub returns-in_default : goal.returns-in_default
returns-in_default c =
    let filled = room_filled _ _ _ _ c.zeros-lines.ensures.value c.zeros-addresses.ensures.value c.zeros-tokens.ensures.value c.zeros-text.ensures.value in
    read_refused _ _ _ _ filled _ _ _ _ _ c.first.ensures.result_value c.args.buffer.now c.in_default.ensures

pub returns : goal.returns
returns c =
    let filled = room_filled _ _ _ _ c.zeros-lines.ensures.value c.zeros-addresses.ensures.value c.zeros-tokens.ensures.value c.zeros-text.ensures.value in
    let code = c.cut-code.ensures in
    read_said _ _ _ _ filled _ _ _ _ _ c.first.ensures.result_value _ _ _ _ _ _ c.in-Some.ensures code.lines c.first-2.ensures.result_value code.tokens code.text c.of_columns.ensures
