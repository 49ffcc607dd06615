use Rattle.json_append.proofs.Appends.{wrote_nothing, wrote_as}
use Rattle.rows.proofs.RowRules.{token_none, token_some}
use Rattle.rows.proofs.put_token.Goals as goal

pub returns-then-web-eq-NO_FAMILY : goal.returns-then-web-eq-NO_FAMILY
returns-then-web-eq-NO_FAMILY c = wrote_as _ _ _ _ (token_none _ _ _ _ _ _ _ _ c.word-web.ensures c.if-web-eq-NO_FAMILY.true) (wrote_nothing _)

pub returns : goal.returns
returns c = wrote_as _ _ _ _ (token_some _ _ _ _ _ _ _ _ c.word-web.ensures c.if-web-eq-NO_FAMILY.false _ _ c.line_start.ensures c.byte.ensures.0) c.put_row.ensures
