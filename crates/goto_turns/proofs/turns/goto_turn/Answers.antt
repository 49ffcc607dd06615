-- `goto_turns::turns::goto_turn` meets its contract. By its tests.
-- Assumes nothing.
use Rattle.goto_turns.proofs.TurnRules.{turn_plain, turn_beyond, turn_calls, turn_loop}
use Rattle.goto_turns.proofs.turns.goto_turn.Goals as goal

pub returns-then-indent-eq255 : goal.returns-then-indent-eq255
returns-then-indent-eq255 c = let p = c.requires in turn_beyond _ _ _ _ _ _ p.h_lt_n.0 p.h_lt_n.2 p.ahead _ c.label_word.ensures c.if-not-label_word.false _ c.indent.ensures.0 c.if-indent-eq255.true _ _

pub find_loop-requires : goal.find_loop-requires
find_loop-requires c = let p = c.requires in let z = turn_calls _ _ _ _ _ _ p.h_lt_n.0 p.h_lt_n.2 p.ahead _ c.label_word.ensures c.if-not-label_word.false _ c.indent.ensures.0 c.if-indent-eq255.false p.h_lt_n.1 p.h_lt_n.3 in record { labelled = z.0; h_bound = z.1; marked = p.marked }

pub returns : goal.returns
returns c = let p = c.requires in turn_loop _ _ _ _ _ _ p.h_lt_n.0 p.h_lt_n.2 p.ahead _ c.label_word.ensures c.if-not-label_word.false _ c.indent.ensures.0 c.if-indent-eq255.false _ _ c.find_loop.ensures

pub returns-then-not-label_word : goal.returns-then-not-label_word
returns-then-not-label_word c = let p = c.requires in turn_plain _ _ _ _ _ _ p.h_lt_n.0 p.h_lt_n.2 p.ahead _ c.label_word.ensures c.if-not-label_word.true
