use mathlib.Core.Bool.{false≢true}
use native.Mathlib.Omega.{arith}
use borrow.Author.Rules.{rules}
use Rattle.labels.proofs.Leads.{inside_some}
use Rattle.line_steps.proofs.Edges.{jumping}
use Rattle.line_steps.proofs.Drawings.{matrices_kept}
use Rattle.line_steps.proofs.steps.token_jumps.Goals as goal

pub jump_step-requires : goal.jump_step-requires
jump_step-requires c = (search (matrices_kept, rules), search rules, search rules)

pub loop-goto-preserved : goal.loop-goto-preserved
loop-goto-preserved c = search (jumping, rules)

pub returns-then-not-jump_step-clause-fact : goal.returns-then-not-jump_step-clause-fact
returns-then-not-jump_step-clause-fact c = λ z. absurd (false≢true z)

pub overflow_add-b : goal.overflow_add-b
overflow_add-b c = let h = inside_some c.loop-goto.goto c.in-Some.k c.line_end-e.result c.in-Some.is c.loop-goto.invariant.0 in omega arith
