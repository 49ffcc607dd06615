use Rattle.bits.proofs.RowLaws.{or_put, fill_or}
use borrow.Author.Rules.{rules}
use Rattle.bits.proofs.or_row.Goals as goal

pub loop-k-preserved : goal.loop-k-preserved
loop-k-preserved c = search (fill_or, rules)

pub returns-then-r-eq1 : goal.returns-then-r-eq1
returns-then-r-eq1 c = search (or_put, rules)
