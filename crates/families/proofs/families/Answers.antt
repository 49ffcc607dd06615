use mathlib.Core.Path.{sym, ◌∙◌}
use native.Mathlib.Omega.{arith}
use lib.Seq.{length-take-le}
use Rattle.families.proofs.Numbered.{place_rules}
use borrow.Author.Rules.{rules}
use Rattle.families.proofs.families.Goals as goal

pub slice_bounds-zero-end-2 : goal.slice_bounds-zero-end-2
slice_bounds-zero-end-2 c = sym (length-take-le 256 c.args.table.now (omega arith))

pub loop-i-init : goal.loop-i-init
loop-i-init c = search (place_rules, rules)

pub loop-i-preserved : goal.loop-i-preserved
loop-i-preserved c = (c.number_line-count.auto.table ∙ c.loop-i.invariant.0, c.number_line-count.auto.defs ∙ c.loop-i.invariant.1, c.number_line-count.ensures)
