-- `blocks::pop` meets its contract. By the count. Assumes nothing.
use borrow.Author.Rules.{rules}
use Rattle.text.proofs.Bools.{bools}
use Rattle.blocks.proofs.pop.Goals as goal

pub returns-then-c-eq1 : goal.returns-then-c-eq1
returns-then-c-eq1 c = search (bools, rules)

pub returns-else-c-eq1 : goal.returns-else-c-eq1
returns-else-c-eq1 c = search (bools, rules)
