-- `text::code_point` meets its contract.
-- Assumes nothing.
use Rattle.text.proofs.CodePoints.{code_points}
use borrow.Author.Rules.{rules}
use Rattle.text.proofs.code_point.Goals as goal

pub returns-in-240-to-244 : goal.returns-in-240-to-244
returns-in-240-to-244 c = search (code_points, rules)
