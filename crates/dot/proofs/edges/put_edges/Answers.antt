use Rattle.json_append.proofs.Appends.{wrote_as}
use Rattle.rows.proofs.RowRules.{rows_next, rows_end}
use Rattle.dot.proofs.EdgeRules.{edges_are}
use Rattle.dot.proofs.edges.put_edges.Goals as goal

pub loop-i-preserved : goal.loop-i-preserved
loop-i-preserved c = rows_next _ _ _ _ _ _ c.loop-i.invariant c.loop-i-test.true _ c.put_from.ensures

pub returns : goal.returns
returns c = wrote_as _ _ _ _ (edges_are _ _) (rows_end _ _ _ _ _ _ c.loop-i.invariant c.loop-i-test.false)
