-- `webs_main::answer::put_answer` meets its contract.
-- Assumes nothing.
use native.Mathlib.Omega.{arith}
use borrow.Author.Rules.{rules}
use Rattle.webs_main.proofs.AnswerRules.{program_long, read_accepted, read_refused}
use Rattle.webs_main.proofs.answer.put_answer.Goals as goal

pub returns-then-s-gt-MOST_INPUT : goal.returns-then-s-gt-MOST_INPUT
returns-then-s-gt-MOST_INPUT c = search (program_long, rules)

pub returns-in_default : goal.returns-in_default
returns-in_default c = read_refused _ _ _ (omega arith) _ _ _ _ c.in_default.ensures c.put_refused-in_default.ensures

pub returns : goal.returns
returns c = read_accepted _ _ _ (omega arith) _ _ _ _ _ _ _ _ c.in-Some.ensures (search rules) (search rules) (search rules) c.put_webs.ensures
