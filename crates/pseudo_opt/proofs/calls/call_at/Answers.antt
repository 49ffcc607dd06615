use borrow.Author.Rules.{rules}
use Rattle.pseudo_opt.proofs.Callees.{line_callees}
use Rattle.pseudo_opt.proofs.calls.call_at.Goals as goal

pub returns-then-is_callee : goal.returns-then-is_callee
returns-then-is_callee c = search (line_callees, rules)

pub returns : goal.returns
returns c = search (line_callees, rules)
