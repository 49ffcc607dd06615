-- `json_listing::lines_at` meets its contract.
-- Assumes nothing.
use Rattle.json_listing.specs.InColumns.{listing_read}
use Rattle.json_listing.proofs.EndRules.{array_no, array_empty, array_more}
use Rattle.json_listing.proofs.lines_at.Goals as goal

pub returns-in_err-s : goal.returns-in_err-s
unfolding listing_read
returns-in_err-s c = rw c.from_residual.ensures (array_no _ _ _ _ _ c.in_err-s.ensures)

pub returns-in-Some : goal.returns-in-Some
unfolding listing_read
returns-in-Some c = array_empty _ _ c.in_ok-s.ensures _ _ _ _ _ _ _ _ _ c.in-Some.ensures

pub returns : goal.returns
returns c = rw (array_more _ _ c.in_ok-s.ensures c.in_default.ensures) c.lines_from.ensures
