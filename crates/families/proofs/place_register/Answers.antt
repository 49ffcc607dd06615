-- `families::place_register` meets its contract. A family that is known, and a new one.
-- Assumes nothing.
use Rattle.families.proofs.Numbered.{place_rules}
use borrow.Author.Rules.{rules}
use Rattle.families.proofs.place_register.Goals as goal

pub returns-then-c-eq0 : goal.returns-then-c-eq0
returns-then-c-eq0 c = search (place_rules, rules)

pub returns-then-not-is_some : goal.returns-then-not-is_some
returns-then-not-is_some c = search (place_rules, rules)

pub returns : goal.returns
returns c = search (place_rules, rules)
