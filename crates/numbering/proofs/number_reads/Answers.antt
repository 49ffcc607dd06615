use mathlib.Core.Path.{◌∙◌}
use native.Mathlib.Omega.{arith}
use lib.ListN.{length-set}
use Rattle.numbering.proofs.LineRules.{line_rules, line_in, reads_next}
use borrow.Author.Rules.{rules}
use Rattle.numbering.proofs.number_reads.Goals as goal

pub loop-i-init : goal.loop-i-init
loop-i-init c = search (line_rules, rules)

pub loop-i-preserved : goal.loop-i-preserved
loop-i-preserved c = (c.read_web.auto.space ∙ c.loop-i.invariant.0, simp length-set c.loop-i.invariant.1, reads_next _ _ _ _ _ _ _ _ _ _ _ c.loop-i.invariant.2 _ _ _ c.loop-i-test.true c.from-i.ensures (let h = (line_in _ _ c.requires.swept.1 _ _ c.loop-i-test.true c.from-i.ensures) in omega (arith, c.loop-i.invariant.1, c.requires.swept.2)) c.read_web.ensures)
