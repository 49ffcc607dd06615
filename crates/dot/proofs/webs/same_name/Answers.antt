-- `dot::webs::same_name` meets its contract.
-- Assumes nothing.
use Rattle.dot.proofs.WebRules.{names_same}
use borrow.Author.Rules.{rules}
use Rattle.dot.proofs.webs.same_name.Goals as goal

pub returns : goal.returns
returns c = search (names_same, rules)
