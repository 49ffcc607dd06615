-- `names::factor` meets its contract. The square is below 2^34.
-- Assumes nothing.
use Rattle.std.proofs.Common.{◌+◌, arith}
use Rattle.names.specs.Hash.{factor}
use Rattle.names.proofs.Hashing.{square_small}
use Rattle.names.proofs.factor.Goals as goal

pub overflow_mul-result : goal.overflow_mul-result
overflow_mul-result c = omega (arith, square_small (c.from-x.result + 65536) (omega arith))

pub returns : goal.returns
unfolding factor
returns c = (rw c.from-x.ensures, omega (arith, square_small (c.from-x.result + 65536) (omega arith)))
