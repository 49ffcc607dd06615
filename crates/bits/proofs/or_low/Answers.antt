-- `bits::or_low` meets its contract. Assumes nothing.
use native.Mathlib.Omega.{arith}
use Rattle.bits.proofs.RowLaws.{low_last}
use Rattle.bits.proofs.or_low.Goals as goal

pub returns : goal.returns
returns c = low_last _ _ _ _ _ c.or_row.ensures c.requires.0 (omega arith)
