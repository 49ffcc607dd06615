use Rattle.json_append.proofs.Appends.{wrote_as}
use Rattle.rows.proofs.RowRules.{rows_end, all_is}
use Rattle.rows.proofs.put_lines.Goals as goal

pub returns : goal.returns
returns c = wrote_as _ _ _ _ (all_is _ _ _ _ _) (rows_end _ _ _ _ _ _ c.loop-i.invariant c.loop-i-test.false)
