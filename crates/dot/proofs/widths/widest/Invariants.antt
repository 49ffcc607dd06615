-- `dot::widths::widest` meets its contract. What is measured, and what is left at i, are the whole.
-- Assumes nothing.
use Rattle.dot.proofs.WidthRules.{Measuring}
use Rattle.dot.specs.Held.{line_cells}
use lib.ListN.{length}
use Rattle.dot.proofs.widths.widest.Given as goal

abbrev pub invariant-loop-i : goal.invariant-loop-i
invariant-loop-i l = Measuring (line_cells l.code.lines.now l.code.tokens.now l.code.text.now l.numbers) (length l.code.lines.now) l.m l.i
