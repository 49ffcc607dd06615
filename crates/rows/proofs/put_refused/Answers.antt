use native.Mathlib.Omega.{arith}
use Rattle.rows.proofs.Room.{refused_short}
use Rattle.rows.proofs.put_refused.Goals as goal

pub returns-clause-n_len_bound : goal.returns-clause-n_len_bound
returns-clause-n_len_bound c = refused_short _ (omega arith)
