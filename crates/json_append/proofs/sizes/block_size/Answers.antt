use native.Mathlib.Omega.{arith}
use mathlib.Core.Path.{◌∙◌}
use Rattle.json_append.specs.Sizes.{byte_size}
use Rattle.json_append.proofs.Sums.{counted_next, counted_end, total_bytes}
use Rattle.json_append.proofs.sizes.block_size.Goals as goal

pub loop-c-preserved : goal.loop-c-preserved
loop-c-preserved c = counted_next byte_size 6 _ _ _ c.loop-c.invariant 0 _ (omega arith) c.byte_size-n.ensures

pub returns : goal.returns
returns c = counted_end byte_size 6 _ _ _ c.loop-c.invariant (omega arith) ∙ total_bytes _
