-- `bits::row` meets its contract. Assumes nothing.
use mathlib.Core.Path.{refl}
use native.Mathlib.Omega.{arith}
use Rattle.bits.proofs.EdgeLaws.{row_in}
use Rattle.bits.proofs.row.Goals as goal

pub overflow_mul-result : goal.overflow_mul-result
overflow_mul-result c = omega (arith, row_in c.args.i c.args.n c.args.r c.requires.0)

pub returns : goal.returns
returns c = (refl, row_in c.args.i c.args.n c.args.r c.requires.0)
