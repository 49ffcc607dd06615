use Rattle.bits.proofs.RowLaws.{fill_copy}
use borrow.Author.Rules.{rules}
use Rattle.bits.proofs.copy_row.Goals as goal

pub loop-i-preserved : goal.loop-i-preserved
loop-i-preserved c = search (fill_copy, rules)
