-- `enters::marks::own_mark` meets its contract. By its tests.
-- Assumes nothing.
use borrow.Author.Rules.{rules}
use Rattle.enters.proofs.MarkRules.{owns}
use Rattle.enters.proofs.marks.own_mark.Goals as goal

pub returns-in_default : goal.returns-in_default
returns-in_default c = search (owns, rules)

pub returns-else-i-lines : goal.returns-else-i-lines
returns-else-i-lines c = search (owns, c.in-Kept.ensures, rules)
