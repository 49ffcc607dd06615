-- `names::spread` meets its contract. The square is below 2^64.
-- Assumes nothing.
use Rattle.std.proofs.Common.{◌%◌, refl, arith}
use Rattle.names.specs.Hash.{spread}
use Rattle.names.proofs.Hashing.{square_fits}
use Rattle.names.proofs.spread.Goals as goal

pub overflow_mul-result : goal.overflow_mul-result
overflow_mul-result c = omega (arith, square_fits (c.args.h % 4294967296) (omega arith))

pub returns : goal.returns
unfolding spread
returns c = refl
