use Rattle.rows.proofs.RowRules.{row_name_put}
use Rattle.rows.proofs.names.put_row_name.Goals as goal

pub returns : goal.returns
returns c = row_name_put _ _ _ _ c.requires c.part.ensures c.put.ensures
