-- `json_listing::ended` meets its contract.
-- Assumes nothing.
use mathlib.Core.Path.{sym}
use Rattle.json_listing.proofs.EndRules.{empty_is}
use Rattle.json_listing.proofs.ended.Goals as goal

pub returns : goal.returns
returns c = rw (c.is_empty.ensures, c.skip_white_space.ensures) (sym (empty_is _))
