use Rattle.rows.proofs.RowRules.{rows_end}
use Rattle.dot.proofs.nodes.Numbered.put_nodes.Goals as goal

pub returns : goal.returns
returns c = rows_end _ _ _ _ _ _ c.loop-i.invariant c.loop-i-test.false
