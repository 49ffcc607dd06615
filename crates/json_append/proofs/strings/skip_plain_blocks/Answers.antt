use Rattle.json_append.proofs.StringRules.{plain_then}
use Rattle.json_append.proofs.Sums.{plain_block}
use Rattle.json_append.proofs.strings.skip_plain_blocks.Goals as goal

pub loop-block-preserved : goal.loop-block-preserved
loop-block-preserved c = let k = c.in-Some.ensures.cases in
    plain_then _ _ _ c.loop-block.invariant (plain_block _ _ _ _ k.0 k.1 k.2 c.block_size.ensures c.if-block_size-ne8.false)
