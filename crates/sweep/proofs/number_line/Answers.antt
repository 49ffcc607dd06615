-- `sweep::number_line` meets its contract. Assumes nothing.
use Rattle.sweep.proofs.Numbering.{number_yes, number_no}
use borrow.Author.Rules.{rules}
use Rattle.sweep.proofs.number_line.Goals as goal

pub returns-then-g-f : goal.returns-then-g-f
returns-then-g-f c = search (number_yes, rules)

pub returns : goal.returns
returns c = search (number_no, rules)
