-- The bytes before `rest` are written as they stand.
use lib.ListN.{length}
use Rattle.json_append.specs.Appended.{Plain}
use Rattle.json_append.proofs.strings.skip_plain_blocks.Given as goal

abbrev pub invariant-loop-block : goal.invariant-loop-block
invariant-loop-block l = Plain l.s l.rest

abbrev pub decreases-loop-block : goal.decreases-loop-block
decreases-loop-block l = length l.rest
