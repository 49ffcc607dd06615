-- `json_read::read_json` meets its contract.
-- Assumes nothing.
use Rattle.json_listing.specs.InColumns.{listing_read}
use Rattle.json_read.proofs.CallRules.{out_refused, out_accepted}
use Rattle.json_read.proofs.read_json.Goals as goal

pub returns-in_default : goal.returns-in_default
unfolding listing_read
returns-in_default c =
    let R = c.read_within in
    let z = c.zero_rest.ensures in
    out_refused _ _ _ _ _ _ _ _ _ R.auto.lines R.auto.addresses R.auto.tokens R.auto.text c.in_default.ensures _ _ _ _
    z.lines_after z.addresses_after z.tokens_after z.text_after

pub returns : goal.returns
unfolding listing_read
returns c =
    let R = c.read_within in
    let z = c.zero_rest-2.ensures in
    out_accepted _ _ _ _ _ _ _ _ _ R.auto.lines R.auto.addresses R.auto.tokens R.auto.text _ _ c.in-Some.ensures _ _ _ _
    z.lines_after z.addresses_after z.tokens_after z.text_after
