-- `line_steps::keywords::is_case` meets its contract.
-- Assumes nothing.
use Rattle.line_steps.proofs.Tests.{no_case}
use borrow.Author.Rules.{rules}
use Rattle.line_steps.proofs.keywords.is_case.Goals as goal

pub returns-else-has_case : goal.returns-else-has_case
returns-else-has_case c = search (no_case, rules)
