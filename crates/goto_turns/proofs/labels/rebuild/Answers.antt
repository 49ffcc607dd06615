-- `goto_turns::labels::rebuild` meets its contract. The body, then the header.
-- Assumes nothing.
use Rattle.goto_turns.proofs.LoopRules.{rebuild_calls, rebuilt_go, rebuilt_beyond, rebuilt_deep}
use native.Mathlib.Omega.{arith}
use Rattle.goto_turns.proofs.labels.rebuild.Goals as goal

pub returns-then-indent-eq254 : goal.returns-then-indent-eq254
returns-then-indent-eq254 c = rebuilt_deep _ _ _ _ _ _ _ c.requires _ c.indent.ensures.0 c.if-indent-eq254.true _ _

pub make_loop-requires : goal.make_loop-requires
make_loop-requires c = let p = c.requires in let z = rebuild_calls _ _ _ _ _ _ _ p _ c.rewrite.ensures.value c.if-rewrite.true _ c.rewrite.ensures.plan_after in record { h_bound = (omega (arith, p.far, p.within), omega (arith, p.labelled.fits, c.rewrite.auto.plan), p.labelled.formed, z.0); ahead = z.1 }

pub returns-then-rewrite : goal.returns-then-rewrite
returns-then-rewrite c = rebuilt_go _ _ _ _ _ _ _ c.requires _ c.rewrite.ensures.value c.if-rewrite.true _ c.rewrite.ensures.plan_after _ c.indent.ensures.0 c.if-indent-eq254.false _ _ c.make_loop.ensures

pub returns-else-rewrite : goal.returns-else-rewrite
returns-else-rewrite c = rebuilt_beyond _ _ _ _ _ _ _ c.requires _ c.rewrite.ensures.value c.if-rewrite.false _ _
