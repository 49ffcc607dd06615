use native.Mathlib.Omega.{arith}
use Rattle.goto_for.proofs.WordRules.{place_next}
use Rattle.goto_for.proofs.initialisers.initialiser.Goals as goal

pub loop-k-preserved : goal.loop-k-preserved
loop-k-preserved c = place_next _ _ _ _ _ _ c.loop-k.auto.k c.loop-k.invariant (omega arith) _ c.inits_at.ensures c.if-inits_at.false _ c.passes_at.ensures c.if-not-passes_at.false
