-- `families::number_line` meets its contract. The line's place is stored.
-- Assumes nothing.
use Rattle.families.proofs.Numbered.{place_rules}
use borrow.Author.Rules.{rules}
use Rattle.families.proofs.number_line.Goals as goal

pub bounds-defs-i : goal.bounds-defs-i
bounds-defs-i c = search (place_rules, rules)

pub returns : goal.returns
returns c = search (place_rules, rules)
