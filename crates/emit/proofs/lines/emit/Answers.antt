use borrow.Author.Rules.{rules}
use Rattle.emit.proofs.Planned.{word_sound, emitted_next, emitted_end}
use Rattle.emit.proofs.lines.emit.Goals as goal

pub loop-w-init : goal.loop-w-init
loop-w-init c = record { same = search rules; holds = c.start-out.ensures _ _ _ _ }

pub emit_line-requires : goal.emit_line-requires
emit_line-requires c = let p = c.requires in record { w_value = (word_sound _ _ p.plan_value.0 c.loop-w-test.true, p.plan_value.1); text_value = p.text_value }

pub loop-w-preserved : goal.loop-w-preserved
loop-w-preserved c = emitted_next _ _ _ c.loop-w-test.true c.loop-w.invariant c.emit_line.ensures

pub returns : goal.returns
returns c = emitted_end _ _ _ c.loop-w-test.false c.loop-w.invariant
