-- `dot::webs::same_web` meets its contract.
-- Assumes nothing.
use Rattle.dot.proofs.WebRules.{web_same, web_other}
use borrow.Author.Rules.{rules}
use Rattle.dot.proofs.webs.same_web.Goals as goal

pub returns-then-word : goal.returns-then-word
returns-then-word c = search (web_same, rules)

pub returns-else-word : goal.returns-else-word
returns-else-word c = search (web_other, rules)
