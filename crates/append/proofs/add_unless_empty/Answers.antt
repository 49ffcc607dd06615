-- `append::add_unless_empty` meets its contract. Nothing, or the token.
-- Assumes nothing.
use borrow.Author.Rules.{rules}
use mathlib.Core.Path.{◌≡◌}
use lib.ListN.{length}
use Rattle.append.proofs.Appends.{adds_empty, adds_filled}
use Rattle.append.proofs.add_unless_empty.Goals as goal

pub returns-then-not-is_empty : goal.returns-then-not-is_empty
returns-then-not-is_empty c = let some : length c.args.s.now ≡ 0 → ⊥ = search rules in adds_filled _ _ some c.add.ensures

pub returns-else-not-is_empty : goal.returns-else-not-is_empty
returns-else-not-is_empty c = let none : length c.args.s.now ≡ 0 = search rules in adds_empty _ _ none
