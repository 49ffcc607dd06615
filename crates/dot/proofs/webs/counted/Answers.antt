-- `dot::webs::counted` meets its contract.
-- Assumes nothing.
use Rattle.dot.proofs.WebRules.{counted_yes, counted_no}
use borrow.Author.Rules.{rules}
use Rattle.dot.proofs.webs.counted.Goals as goal

pub returns-then-yes : goal.returns-then-yes
returns-then-yes c = search (counted_yes, rules)

pub returns-else-yes : goal.returns-else-yes
returns-else-yes c = search (counted_no, rules)
