use Rattle.json_append.proofs.Appends.{wrote_as}
use Rattle.rows.proofs.RowRules.{rows_end, line_is}
use Rattle.rows.proofs.put_line.Goals as goal

pub returns : goal.returns
returns c = wrote_as _ _ _ _ (line_is _ _ _ _ _ _ _ c.line_end-end.ensures) (rows_end _ _ _ _ _ _ c.loop-k.invariant c.loop-k-test.false)
