-- `loops::turns::loop_turn` meets its contract. By its tests.
-- Assumes nothing.
use Rattle.loops.proofs.TurnRules.{turn_plain, turn_beyond, turn_other, turn_close}
use Rattle.loops.proofs.turns.loop_turn.Goals as goal

pub returns-then-indent-eq255 : goal.returns-then-indent-eq255
returns-then-indent-eq255 c = let p = c.requires in turn_beyond _ _ _ _ _ _ p.i_bound.0 p.i_bound.1 p.ready _ c.is_do.ensures c.if-is_do.true _ c.indent.ensures.0 c.if-indent-eq255.true _

pub returns-then-opens : goal.returns-then-opens
returns-then-opens c = let p = c.requires in turn_close _ _ _ _ _ _ p.i_bound.0 p.i_bound.1 p.ready _ c.is_do.ensures c.if-is_do.true _ c.indent.ensures.0 c.if-indent-eq255.false _ c.opens.ensures c.if-opens.true _ _ c.close.ensures

pub returns-else-opens : goal.returns-else-opens
returns-else-opens c = let p = c.requires in turn_other _ _ _ _ _ _ p.i_bound.0 p.i_bound.1 p.ready _ c.is_do.ensures c.if-is_do.true _ c.indent.ensures.0 c.if-indent-eq255.false _ c.opens.ensures c.if-opens.false

pub returns-else-is_do : goal.returns-else-is_do
returns-else-is_do c = let p = c.requires in turn_plain _ _ _ _ _ _ p.i_bound.0 p.i_bound.1 p.ready _ c.is_do.ensures c.if-is_do.false
