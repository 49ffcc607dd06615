-- `visit::layout::Layout::succs_span` meets its contract. Assumes nothing.
use native.Mathlib.Omega.{arith}
use Rattle.visit.proofs.StepLaws.{succs_row}
use borrow.Author.Rules.{rules}
use Rattle.visit.proofs.layout.Layout.succs_span.Goals as goal

pub row_span-requires : goal.row_span-requires
row_span-requires c = (search rules, omega arith, omega arith, search (succs_row, rules))
