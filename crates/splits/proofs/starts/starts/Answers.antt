use native.Mathlib.Omega.{arith}
use lib.ListN.{length-set}
use Rattle.splits.proofs.StartRules.{starting_next}
use Rattle.splits.proofs.starts.starts.Goals as goal

pub loop-i-preserved : goal.loop-i-preserved
loop-i-preserved c = (
  simp length-set c.loop-i.invariant.0,
  starting_next _ _ _ _ _ _ _ c.loop-i.invariant.1 c.requires.0.1 c.loop-i-test.true (omega (arith, c.loop-i.invariant.0, c.requires.1, c.loop-i-test.true)) _ _ _ c.start_of.ensures c.number.ensures c.max-reach.ensures,
)
