-- `enters::entering::goes_inside` meets its contract. By the mark, or by the tokens.
-- Assumes nothing.
use borrow.Author.Rules.{rules}
use Rattle.enters.proofs.MarkRules.{goes_marked}
use Rattle.enters.proofs.entering.goes_inside.Goals as goal

pub returns-then-m-gt2 : goal.returns-then-m-gt2
returns-then-m-gt2 c = search (goes_marked, rules)
