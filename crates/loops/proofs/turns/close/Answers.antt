-- `loops::turns::close` meets its contract. By the answer of the search.
-- Assumes nothing.
use Rattle.loops.proofs.TurnRules.{close_none, close_found}
use Rattle.loops.proofs.ForRules.{end_inside}
use Rattle.loops.proofs.turns.close.Goals as goal

pub returns-in_default : goal.returns-in_default
returns-in_default c = let p = c.requires in close_none _ _ _ _ _ _ p.i_bound.0 p.i_bound.1 p.ready _ c.indent.ensures.0 _ c.first_end.ensures c.in_default.is

pub close_at-requires : goal.close_at-requires
close_at-requires c = let p = c.requires in let i = end_inside _ _ _ _ _ _ p.i_bound.1 c.first_end.ensures c.in-Some.is in record { i_bound = (i.0, i.1, p.i_bound.1, p.i_bound.2); ready = p.ready }

pub returns : goal.returns
returns c = let p = c.requires in close_found _ _ _ _ _ _ p.i_bound.0 p.i_bound.1 p.ready _ c.indent.ensures.0 _ c.first_end.ensures _ c.in-Some.is _ _ c.close_at.ensures
