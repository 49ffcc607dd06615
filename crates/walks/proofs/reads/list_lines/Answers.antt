use mathlib.Core.Path.{◌∙◌}
use Rattle.walks.proofs.Seen.{seen_rules, seen_line, list_next}
use native.Mathlib.Omega.{arith}
use borrow.Author.Rules.{rules}
use Rattle.walks.proofs.reads.list_lines.Goals as goal

pub loop-i-init : goal.loop-i-init
loop-i-init c = search (seen_rules, rules)

pub loop-i-preserved : goal.loop-i-preserved
loop-i-preserved c = (omega arith, omega (arith, c.loop-i-test.true), omega (arith, c.put-m.ensures.step, c.loop-i.invariant.2), c.put-m.auto.set ∙ c.loop-i.invariant.3, list_next _ _ _ _ c.loop-i.invariant.4 c.loop-i.invariant.0 _ _ _ (seen_line _ _ _ _ _ c.requires.0 _ c.loop-i.invariant.0 c.loop-i-test.true _ c.is_seen.ensures) c.put-m.ensures)

pub returns : goal.returns
returns c = search (seen_rules, rules)
