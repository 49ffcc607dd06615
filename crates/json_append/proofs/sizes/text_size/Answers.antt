use native.Mathlib.Omega.{arith}
use mathlib.Core.Path.{◌∙◌}
use Rattle.json_append.specs.Sizes.{byte_size}
use Rattle.json_append.proofs.Sums.{counted_wide, counted_end, total_bytes}
use Rattle.json_append.proofs.sizes.text_size.Goals as goal

pub loop-c-preserved : goal.loop-c-preserved
loop-c-preserved c = counted_wide byte_size 6 _ _ _ c.loop-c.invariant 0 _ _ (omega arith) c.byte_size.ensures c.from-n.ensures

pub returns : goal.returns
returns c = let g = c.loop-c.invariant in
    let e = counted_end byte_size 6 _ _ _ g (omega arith) in
    record { is = e ∙ total_bytes _; most = omega arith }
