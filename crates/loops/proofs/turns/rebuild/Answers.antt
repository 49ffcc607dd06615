-- `loops::turns::rebuild` meets its contract. The words are changed, then `to_for`.
-- Assumes nothing.
use Rattle.loops.proofs.TurnRules.{ready_header, rebuild_calls, rebuilt_go, rebuilt_beyond}
use native.Mathlib.Omega.{arith}
use Rattle.loops.proofs.turns.rebuild.Goals as goal

pub unwrap-requires : goal.unwrap-requires
unwrap-requires c = let p = c.requires in (p.i_bound.0, omega (arith, p.i_bound.1), p.i_bound.2, ready_header _ _ _ (omega (arith, p.i_bound.0, p.i_bound.1)) p.i_bound.2 p.ready)

pub to_for-m-requires : goal.to_for-m-requires
to_for-m-requires c = let p = c.requires in record { w_lt_n = (omega (arith, p.i_bound.0, p.i_bound.1), omega (arith, p.i_bound.2, c.unwrap.auto.plan), p.i_bound.3); w_value = rebuild_calls _ _ _ _ p.i_bound.0 p.i_bound.1 p.i_bound.2 p.ready _ c.unwrap.ensures.value _ c.if-not-unwrap.false c.unwrap.ensures.plan_after }

pub returns : goal.returns
returns c = let p = c.requires in rebuilt_go _ _ _ _ p.i_bound.0 p.i_bound.1 p.i_bound.2 p.ready _ c.unwrap.ensures.value _ c.if-not-unwrap.false c.unwrap.ensures.plan_after _ _ _ _ _ c.to_for-m.ensures

pub returns-then-not-unwrap : goal.returns-then-not-unwrap
returns-then-not-unwrap c = let p = c.requires in rebuilt_beyond _ _ _ _ p.i_bound.0 p.i_bound.1 p.i_bound.2 p.ready _ c.unwrap.ensures.value c.if-not-unwrap.true _ _ _ _
