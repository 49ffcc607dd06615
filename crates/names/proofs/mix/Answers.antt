-- `names::mix` meets its contract. The product is below 2^64.
-- Assumes nothing.
use Rattle.std.proofs.Common.{◌+◌, refl, arith}
use Rattle.names.specs.Hash.{mix}
use Rattle.names.proofs.Hashing.{product_small}
use Rattle.names.proofs.mix.Goals as goal

pub overflow_mul-x : goal.overflow_mul-x
overflow_mul-x c = omega (arith, product_small (c.args.h + c.args.c) c.args.f (omega arith) (omega arith))

pub overflow_mul-result : goal.overflow_mul-result
overflow_mul-result c = omega (arith, product_small (c.args.h + c.args.c) c.args.f (omega arith) (omega arith))

pub overflow_add-result : goal.overflow_add-result
overflow_add-result c = omega (arith, product_small (c.args.h + c.args.c) c.args.f (omega arith) (omega arith))

pub returns : goal.returns
unfolding mix
returns c = (refl, omega (arith, product_small (c.args.h + c.args.c) c.args.f (omega arith) (omega arith)))
