use native.Mathlib.Omega.{arith}
use Rattle.labels.proofs.Leads.{inside_some}
use Rattle.crossings.proofs.mark_line.Goals as goal

pub overflow_add-b : goal.overflow_add-b
overflow_add-b c = let h = inside_some c.loop-goto.goto c.in-Some.k c.line_end-e.result c.in-Some.is c.loop-goto.invariant.0 in omega arith
