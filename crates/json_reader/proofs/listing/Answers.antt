-- `json_reader::listing` meets its contract: the array of lines is read at the start, and only white space may be left behind it.
-- Assumes nothing.
use Rattle.json_listing.specs.InColumns.{listing_read}
use Rattle.json_listing.proofs.EndRules.{not_closed, closed_read}
use Rattle.json_reader.proofs.listing.Goals as goal

pub returns-in_err-counts : goal.returns-in_err-counts
unfolding listing_read
returns-in_err-counts c = rw c.from_residual.ensures (not_closed _ _ _ _ _ c.in_err-counts.ensures)

pub returns : goal.returns
unfolding listing_read
returns c = rw c.then_some.ensures (closed_read _ _ _ _ _ _ _ _ _ c.in_ok-counts.counts c.line_array.new.self.rest c.in_ok-counts.ensures _ c.ended.ensures)
