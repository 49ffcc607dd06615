-- `goto_turns::labels::find_loop` meets its contract. By the answer of the search.
-- Assumes nothing.
use Rattle.goto_turns.proofs.TurnRules.{find_inside, find_none, find_at}
use Rattle.goto_turns.proofs.labels.find_loop.Goals as goal

pub returns-in_default : goal.returns-in_default
returns-in_default c = find_none _ _ _ _ _ _ c.requires.labelled _ c.source.ensures _ c.text_at-head.ensures _ c.indent-ind.ensures.0 _ c.back_edge.ensures c.in_default.is

pub loop_at-requires : goal.loop_at-requires
loop_at-requires c = let p = c.requires in let z = find_inside _ _ _ _ _ _ p.labelled _ c.source.ensures _ c.text_at-head.ensures _ c.indent-ind.ensures.0 _ c.back_edge.ensures _ c.in-Some.is in record { labelled = p.labelled; h_lt_b = (z.0, z.1, p.h_bound); marked = p.marked }

pub returns : goal.returns
returns c = find_at _ _ _ _ _ _ c.requires.labelled _ c.source.ensures _ c.text_at-head.ensures _ c.indent-ind.ensures.0 _ c.back_edge.ensures _ c.in-Some.is _ _ c.loop_at.ensures
