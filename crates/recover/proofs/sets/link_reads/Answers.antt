use mathlib.Core.Path.{◌∙◌}
use Rattle.recover.proofs.LinkReads.{link_rules, links_next, slices_next}
use borrow.Author.Rules.{rules}
use Rattle.recover.proofs.sets.link_reads.Goals as goal

pub loop-i-init : goal.loop-i-init
loop-i-init c = search (link_rules, rules)

pub link_line-requires : goal.link_line-requires
link_line-requires c = (c.loop-i.invariant.5.swept, rw c.from.ensures (c.requires.1 _ c.loop-i-test.true), c.loop-i.invariant.4)

pub loop-i-preserved : goal.loop-i-preserved
loop-i-preserved c = (c.link_line.auto.space ∙ c.loop-i.invariant.0, c.link_line.auto.rep ∙ c.loop-i.invariant.1, c.link_line.auto.set ∙ c.loop-i.invariant.2, c.link_line.auto.marks ∙ c.loop-i.invariant.3, slices_next _ _ _ _ _ _ _ _ _ _ _ _ _ c.loop-i.invariant.4 c.link_line.ensures c.link_line.auto.rep c.link_line.auto.set c.link_line.auto.marks, links_next _ _ _ _ _ _ _ _ _ _ c.loop-i.invariant.5 _ _ _ c.loop-i-test.true c.from.ensures c.link_line.ensures)
