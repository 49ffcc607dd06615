-- `webs_main::answer::put_webs` meets its contract.
-- Assumes nothing.
use borrow.Author.Rules.{rules}
use Rattle.webs_main.proofs.AnswerRules.{webs_accepted, webs_refused}
use Rattle.webs_main.proofs.answer.put_webs.Goals as goal

pub returns-in-Ok : goal.returns-in-Ok
returns-in-Ok c = search (webs_accepted, rules)

pub returns-in-Err : goal.returns-in-Err
returns-in-Err c = search (webs_refused, rules)
