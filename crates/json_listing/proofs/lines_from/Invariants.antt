-- `json_listing::lines_from` meets its contract.
-- Assumes nothing.
use lib.ListN.{length}
use Rattle.json_listing.proofs.LoopRules.{Going}
use Rattle.json_listing.proofs.lines_from.Given as goal

abbrev pub invariant-loop-k : goal.invariant-loop-k
invariant-loop-k l = Going l.s (length l.initial.lines) (length l.initial.addresses) (length l.initial.tokens) (length l.initial.text) l.lines l.addresses l.tokens l.text l.rest l.k l.filled.tokens l.filled.text
