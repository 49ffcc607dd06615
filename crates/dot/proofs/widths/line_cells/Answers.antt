-- `dot::widths::line_cells` meets its contract.
-- Assumes nothing.
use native.Mathlib.Omega.{arith}
use Rattle.dot.proofs.WidthRules.{line_is, indent_most}
use borrow.Author.Rules.{rules}
use Rattle.dot.proofs.widths.line_cells.Goals as goal

pub overflow_mul-result : goal.overflow_mul-result
overflow_mul-result c = let a = c.args in omega (arith, indent_most a.code.now.lines.now a.code.now.tokens.now a.code.now.text.now a.i)

pub overflow_add-result : goal.overflow_add-result
overflow_add-result c = let a = c.args in omega (arith, indent_most a.code.now.lines.now a.code.now.tokens.now a.code.now.text.now a.i)

pub returns : goal.returns
returns c = let a = c.args in record { value = search (line_is, rules); upper_bound = omega (arith, indent_most a.code.now.lines.now a.code.now.tokens.now a.code.now.text.now a.i) }
