-- `line_steps::keywords::is_left` meets its contract. Assumes nothing.
use borrow.Author.Rules.{rules}
use Rattle.text.proofs.Bools.{bools}
use Rattle.line_steps.proofs.keywords.is_left.Goals as goal

pub returns-then-is_loop : goal.returns-then-is_loop
returns-then-is_loop c = search (bools, rules)

pub returns-else-is_loop : goal.returns-else-is_loop
returns-else-is_loop c = search (bools, rules)
