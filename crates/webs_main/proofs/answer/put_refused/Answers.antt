-- `webs_main::answer::put_refused` meets its contract.
-- Assumes nothing.
use borrow.Author.Rules.{rules}
use Rattle.webs_main.proofs.AnswerRules.{refused_printed}
use Rattle.webs_main.proofs.answer.put_refused.Goals as goal

pub returns : goal.returns
returns c = search (refused_printed, rules)
