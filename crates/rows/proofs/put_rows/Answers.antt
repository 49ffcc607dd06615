use Rattle.rows.proofs.Room.{rows_short}
use Rattle.rows.proofs.put_rows.Goals as goal

pub returns-clause-short : goal.returns-clause-short
returns-clause-short c = rows_short _ _ _ _ _ c.type_inv.numbers
