-- `json_write::sizes::listing_size` meets its contract.
-- Assumes nothing.
use borrow.Author.Rules.{rules}
use Rattle.json_write.proofs.SizeLaws.{listing_sized}
use Rattle.json_write.proofs.sizes.listing_size.Goals as goal

pub returns : goal.returns
returns c = search (listing_sized, rules)
