-- `emit::lines::emit_line` meets its contract. Its tokens, then its end.
-- Assumes nothing.
use Rattle.emit.proofs.Planned.{line_ended}
use Rattle.emit.proofs.lines.emit_line.Goals as goal

pub add_planned-requires : goal.add_planned-requires
add_planned-requires c = let p = c.requires in record { w_value = p.w_value.0; text_value = p.text_value }

pub returns : goal.returns
returns c = line_ended _ _ _ _ _ c.requires.w_value.1 c.add_planned.ensures _ _ _ c.source.ensures c.indent.ensures.0 c.address_of-a.ensures c.end_line.ensures
