use Rattle.json_append.proofs.Appends.{wrote_2}
use Rattle.rows.proofs.RowRules.{row_is}
use Rattle.rows.proofs.put_row.Goals as goal

pub returns : goal.returns
returns c = wrote_2 _ _ _ c.put_place.ensures _ _ c.put_web.ensures _ (row_is _ _ _ c.fam_of-r.result _ _ _ _ c.token_text-s.ensures c.token_kind.ensures c.fam_of-r.ensures)
