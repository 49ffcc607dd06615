use Rattle.rows.proofs.RowRules.{rows_end}
use Rattle.dot.proofs.nodes.Numbered.put_tokens.Goals as goal

pub returns : goal.returns
returns c = rw (← c.line_end-end.ensures) (rows_end _ _ _ _ _ _ c.loop-k.invariant c.loop-k-test.false)
