-- `goto_turns::labels::loop_at` meets its contract. By its tests.
-- Assumes nothing.
use Rattle.goto_turns.proofs.TurnRules.{loop_short, loop_entered, loop_calls, loop_rebuilt}
use Rattle.goto_turns.proofs.labels.loop_at.Goals.{else-h-b-via-then-h-b+else-not-enters, else-h-b-via-else-h-b}
use Rattle.goto_turns.proofs.labels.loop_at.Goals as goal

pub enters-requires : goal.enters-requires
enters-requires c = let p = c.requires in record { h_lt_b = (p.h_lt_b.0, p.h_lt_b.1, p.labelled.few, p.labelled.fits, p.labelled.formed, p.labelled.ahead.words); h_value = p.labelled.label; marked = p.marked }

pub rebuild-requires : goal.rebuild-requires
rebuild-requires c = let p = c.requires in loop_calls _ _ _ _ _ _ _ p.labelled c.if-h-b.true _ c.enters.ensures c.if-not-enters.true p.h_lt_b.1 p.h_lt_b.2

pub returns-then-not-enters : goal.returns-then-not-enters
returns-then-not-enters c = loop_rebuilt _ _ _ _ _ _ _ c.requires.labelled c.if-h-b.true _ c.enters.ensures c.if-not-enters.true _ _ c.rebuild.ensures

pub returns-else-h-b : goal.returns-else-h-b
returns-else-h-b c = elim c.else-h-b.branch [ else-h-b-via-then-h-b+else-not-enters w ↦ loop_entered _ _ _ _ _ _ _ c.requires.labelled w.if-h-b.true _ w.enters.ensures w.if-not-enters.false | else-h-b-via-else-h-b w ↦ loop_short _ _ _ _ _ _ _ c.requires.labelled w.if-h-b.false ]
