-- `dot::webs::has_web` meets its contract.
-- Assumes nothing.
use Rattle.dot.proofs.WebRules.{web_is}
use borrow.Author.Rules.{rules}
use Rattle.dot.proofs.webs.has_web.Goals as goal

pub returns : goal.returns
returns c = search (web_is, rules)
