-- `line_steps::keywords::is_else_close` meets its contract. Assumes nothing.
use borrow.Author.Rules.{rules}
use Rattle.text.proofs.Bools.{bools}
use Rattle.line_steps.proofs.keywords.is_else_close.Goals as goal

pub returns-then-has_else : goal.returns-then-has_else
returns-then-has_else c = search (bools, rules)

pub returns-else-has_else : goal.returns-else-has_else
returns-else-has_else c = search (bools, rules)
