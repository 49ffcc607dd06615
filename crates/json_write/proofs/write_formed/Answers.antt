-- `json_write::write_formed` meets its contract.
-- Assumes nothing.
use borrow.Author.Rules.{rules}
use native.Mathlib.Omega.{arith}
use Rattle.json_write.proofs.CallRules.{four_no, four_yes}
use Rattle.json_write.proofs.write_formed.Goals as goal

pub returns-then-out-listing_size : goal.returns-then-out-listing_size
returns-then-out-listing_size c = search (four_no, rules)

pub returns : goal.returns
returns c = four_yes _ _ _ c.listing_size.ensures _ _ _ c.if-out-listing_size.false (omega arith) (search rules) c.zero.ensures
