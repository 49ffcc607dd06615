-- `pseudo_ssa::space_words` meets its contract. Assumes nothing.
use native.Mathlib.Omega.{arith}
use Rattle.pseudo_ssa.proofs.Asking.{space_small}
use Rattle.pseudo_ssa.proofs.space_words.Goals as goal

pub overflow_mul-result-2 : goal.overflow_mul-result-2
overflow_mul-result-2 c = omega (arith, space_small c.args.n c.requires)

pub overflow_add-result-2 : goal.overflow_add-result-2
overflow_add-result-2 c = omega (arith, space_small c.args.n c.requires)

pub overflow_add-result-3 : goal.overflow_add-result-3
overflow_add-result-3 c = omega (arith, space_small c.args.n c.requires)
