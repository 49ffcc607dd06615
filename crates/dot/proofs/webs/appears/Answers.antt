-- `dot::webs::appears` meets its contract.
-- Assumes nothing.
use Rattle.text.proofs.Bools.{bools}
use borrow.Author.Rules.{rules}
use Rattle.dot.proofs.webs.appears.Goals as goal

pub returns-then-has_web : goal.returns-then-has_web
returns-then-has_web c = search (bools, rules)

pub returns-else-has_web : goal.returns-else-has_web
returns-else-has_web c = search (bools, rules)
