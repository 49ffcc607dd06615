-- `dot::widths::tokens_cells` meets its contract.
-- Assumes nothing.
use Rattle.dot.proofs.WidthRules.{Summing}
use Rattle.dot.proofs.WidthRules.{Summing}
use Rattle.dot.specs.Dot.{token_cells}
use Rattle.model.specs.Places.{line_start}
use Rattle.definitions.specs.Columns.{token_list}
use Rattle.dot.proofs.widths.tokens_cells.Given as goal

abbrev pub invariant-loop-k : goal.invariant-loop-k
invariant-loop-k l = Summing (token_cells (token_list l.code.tokens.now l.code.text.now) l.numbers) (line_start l.code.lines.now l.i) l.end l.s l.k
