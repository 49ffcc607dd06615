-- `dot::widths::token_cells` meets its contract.
-- Assumes nothing.
use Rattle.dot.proofs.WidthRules.{cells_web, cells_plain, web_most, plain_most}
use Rattle.dot.proofs.WidthRules.{cells_web, cells_plain}
use borrow.Author.Rules.{rules}
use Rattle.dot.proofs.widths.token_cells.Goals as goal

pub returns-then-has_web : goal.returns-then-has_web
returns-then-has_web c = search (cells_web, web_most, rules)

pub returns-else-has_web : goal.returns-else-has_web
returns-else-has_web c = search (cells_plain, plain_most, rules)
