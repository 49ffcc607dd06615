use Rattle.json_append.proofs.Appends.{wrote_as}
use Rattle.rows.proofs.RowRules.{rows_end}
use Rattle.dot.proofs.LabelRules.{blanks_are}
use Rattle.dot.proofs.node_labels.put_blanks.Goals as goal

pub returns : goal.returns
returns c = wrote_as _ _ _ _ (blanks_are _) (rows_end _ _ _ _ _ _ c.loop-i.invariant c.loop-i-test.false)
