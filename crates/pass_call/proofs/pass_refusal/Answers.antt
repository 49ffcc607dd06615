-- `pass_call::pass_refusal` meets its contract. One question after the other.
-- Assumes nothing.
use Rattle.pass_call.proofs.Calling.{small_columns}
use Rattle.pass_call.proofs.pass_refusal.Goals as goal

pub has_room-requires : goal.has_room-requires
has_room-requires c = let p = c.requires in small_columns _ _ _ _ _ _ _ c.question_1.ensures c.if-not-question_1.false p.0 p.1 p.2
