-- `loops::turns::close_at` meets its contract. Rebuilt, or left as it is.
-- Assumes nothing.
use Rattle.loops.proofs.TurnRules.{closed_far, close_other, close_rebuilt}
use Rattle.loops.proofs.turns.close_at.Goals as goal

pub rebuild-requires : goal.rebuild-requires
rebuild-requires c = let p = c.requires in record { i_bound = (p.i_bound.0, closed_far _ _ _ _ _ _ _ p.i_bound.0 p.i_bound.1 p.i_bound.2 p.ready _ c.guarded.ensures c.if-guarded.true, p.i_bound.2, p.i_bound.3); ready = p.ready }

pub returns-then-guarded : goal.returns-then-guarded
returns-then-guarded c = let p = c.requires in close_rebuilt _ _ _ _ _ _ _ p.i_bound.0 p.i_bound.1 p.i_bound.2 p.ready _ c.guarded.ensures c.if-guarded.true _ _ c.rebuild.ensures

pub returns-else-guarded : goal.returns-else-guarded
returns-else-guarded c = let p = c.requires in close_other _ _ _ _ _ _ _ p.i_bound.0 p.i_bound.1 p.i_bound.2 p.ready _ c.guarded.ensures c.if-guarded.false
