-- `legacy::place` meets its contract.
-- Assumes nothing.
use Rattle.legacy.proofs.Table.{place_found, place_none}
use borrow.Author.Rules.{rules}
use Rattle.legacy.proofs.place.Goals as goal

pub returns-then-is_at : goal.returns-then-is_at
returns-then-is_at c = record { found = place_found _ c.place_of-p.result c.is_at.result c.is_at.ensures c.place_of-p.ensures.0 (search rules); below = c.place_of-p.ensures.0 }

pub returns-else-is_at : goal.returns-else-is_at
returns-else-is_at c = record {
  found = place_none _ c.place_of-p.result c.is_at.result c.is_at.ensures c.hash.result c.hash.ensures.0 c.place_of-p.ensures.1 (search rules);
  below = search rules;
}
