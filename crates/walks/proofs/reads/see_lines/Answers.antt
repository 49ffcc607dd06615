use mathlib.Core.Path.{◌∙◌}
use Rattle.walks.proofs.Seen.{seen_rules, seen_room, seen_next}
use native.Mathlib.Omega.{arith}
use borrow.Author.Rules.{rules}
use Rattle.walks.proofs.reads.see_lines.Goals as goal

pub loop-p-init : goal.loop-p-init
loop-p-init c = search (seen_rules, rules)

pub mark_if-requires : goal.mark_if-requires
mark_if-requires c = seen_room _ _ _ _ _ _ _ c.requires.0 _ _ c.loop-p.invariant.1 c.loop-p-test.true (omega (arith, c.requires.2, c.loop-p.invariant.0)) _ c.line_at-i.ensures

pub loop-p-preserved : goal.loop-p-preserved
loop-p-preserved c = (c.mark_if.auto.seen ∙ c.loop-p.invariant.0, seen_next _ _ _ _ _ _ _ c.requires.0 _ _ c.loop-p.invariant.1 c.loop-p-test.true (omega (arith, c.requires.2, c.loop-p.invariant.0)) _ c.line_at-i.ensures _ c.reads_at.ensures _ c.mark_if.ensures _ c.next_at-p.ensures)
