-- `javrenzu::calls::web_rows` meets its contract.
-- Assumes nothing.
use borrow.Author.Rules.{rules}
use Rattle.javrenzu.proofs.Rules.{webs_said, webs_refused}
use Rattle.javrenzu.proofs.calls.web_rows.Goals as goal

pub returns-in_err-recover : goal.returns-in_err-recover
returns-in_err-recover c =
    let e = webs_refused _ _ _ _ _ _ _ c.args.out.now c.zeros-numbers.ensures.value c.zeros-marks.ensures.value _ _ _ c.zeros-space.ensures.value c.in_err-recover.ensures.space_after in
    search rules

pub returns : goal.returns
returns c =
    let rows = c.put_rows.ensures in
    webs_said _ _ _ _ _ _ _ _ c.requires rows.appended rows.short _ _ c.zeros-numbers.ensures.value c.zeros-marks.ensures.value _ _ c.zeros-space.ensures.value _ c.in_ok-recover.ensures.space_after
