-- `javrenzu::calls::split_rows` meets its contract.
-- Assumes nothing.
use borrow.Author.Rules.{rules}
use Rattle.javrenzu.proofs.Rules.{splits_said, splits_refused}
use Rattle.javrenzu.proofs.calls.split_rows.Goals as goal

pub returns-in_err-split_call : goal.returns-in_err-split_call
returns-in_err-split_call c =
    let e = splits_refused _ _ _ _ _ _ _ c.args.out.now c.zeros-numbers.ensures.value c.zeros-marks.ensures.value _ c.in_err-split_call.ensures in
    search rules

pub returns : goal.returns
returns c =
    let rows = c.put_rows.ensures in
    splits_said _ _ _ _ _ _ _ _ c.requires rows.appended rows.short _ _ c.zeros-numbers.ensures.value c.zeros-marks.ensures.value c.in_ok-split_call.ensures
