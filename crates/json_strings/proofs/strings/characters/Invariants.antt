-- `json_strings::strings::characters` meets its contract.
-- Assumes nothing.
use lib.ListN.{length}
use Rattle.json_strings.proofs.StringRules.{Going}
use Rattle.json_strings.proofs.strings.characters.Given as goal

abbrev pub invariant-loop-c : goal.invariant-loop-c
invariant-loop-c l = Going l.s l.initial.text l.from l.text l.rest l.to

abbrev pub decreases-loop-c : goal.decreases-loop-c
decreases-loop-c l = length l.rest
