use Rattle.dot.proofs.WidthRules.{summing_start, summing_next, summing_end, summing_most}
use Rattle.dot.proofs.WidthRules.{summing_start, summing_next, summing_end}
use borrow.Author.Rules.{rules}
use Rattle.dot.proofs.widths.tokens_cells.Goals as goal

pub loop-k-init : goal.loop-k-init
loop-k-init c = summing_start _ _ _ _ c.line_start-k.ensures

pub loop-k-preserved : goal.loop-k-preserved
loop-k-preserved c = search (summing_next, rules)

pub returns : goal.returns
returns c = search (summing_end, summing_most, rules)
