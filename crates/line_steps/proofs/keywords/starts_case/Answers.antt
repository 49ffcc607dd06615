-- `line_steps::keywords::starts_case` meets its contract. Assumes nothing.
use borrow.Author.Rules.{rules}
use Rattle.text.proofs.Bools.{bools}
use Rattle.line_steps.proofs.keywords.starts_case.Goals as goal

pub returns-then-is_kw : goal.returns-then-is_kw
returns-then-is_kw c = search (bools, rules)

pub returns-else-is_kw : goal.returns-else-is_kw
returns-else-is_kw c = search (bools, rules)
