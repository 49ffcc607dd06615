-- `javrenzu::calls::chosen_rows` meets its contract.
-- Assumes nothing.
use borrow.Author.Rules.{rules}
use Rattle.javrenzu.proofs.Rules.{chose_webs, chose_splits, choose_refused}
use Rattle.javrenzu.proofs.calls.chosen_rows.Goals as goal

pub returns-in_err-sweeps : goal.returns-in_err-sweeps
returns-in_err-sweeps c =
    let e = choose_refused _ _ _ _ _ _ _ c.args.out.now c.zeros-numbers.ensures.value c.zeros-marks.ensures.value _ _ _ c.zeros-space.ensures.value c.in_err-sweeps.ensures in
    search rules

pub returns-in-ByWebs : goal.returns-in-ByWebs
returns-in-ByWebs c =
    let rows = c.put_rows.ensures in
    chose_webs _ _ _ _ _ _ _ _ c.requires rows.appended rows.short _ _ c.zeros-numbers.ensures.value c.zeros-marks.ensures.value _ _ c.zeros-space.ensures.value _ c.in_ok-sweeps.ensures _ c.in-ByWebs.is

pub returns-in-BySplits : goal.returns-in-BySplits
returns-in-BySplits c =
    let rows = c.put_rows-in-BySplits.ensures in
    chose_splits _ _ _ _ _ _ _ _ c.requires rows.appended rows.short _ _ c.zeros-numbers.ensures.value c.zeros-marks.ensures.value _ _ c.zeros-space.ensures.value _ c.in_ok-sweeps.ensures c.in-BySplits.is
