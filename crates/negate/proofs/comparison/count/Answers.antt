use native.Mathlib.Omega.{arith}
use borrow.Author.Rules.{rules}
use Rattle.negate.proofs.Scanning.{count_all, count_add}
use Rattle.negate.proofs.comparison.count.Goals as goal

pub loop-k-preserved : goal.loop-k-preserved
loop-k-preserved c = (search rules, count_add _ _ _ _ c.loop-k.invariant.1 _ c.is_byte-n.ensures.0 (search rules), omega (arith, c.is_byte-n.ensures.1))

pub returns : goal.returns
returns c = search (count_all, rules)
