use Rattle.json_append.proofs.Appends.{wrote_as}
use Rattle.rows.proofs.RowRules.{rows_next, rows_end}
use Rattle.dot.proofs.EdgeRules.{edge_bit}
use Rattle.dot.proofs.edges.put_from.Goals as goal

pub loop-j-preserved : goal.loop-j-preserved
loop-j-preserved c = rows_next _ _ _ _ _ _ c.loop-j.invariant c.loop-j-test.true _ (wrote_as _ _ _ _ (edge_bit _ _ _ _ _ c.get_bit-drawn.ensures) c.put_edge.ensures)

pub returns : goal.returns
returns c = rows_end _ _ _ _ _ _ c.loop-j.invariant c.loop-j-test.false
