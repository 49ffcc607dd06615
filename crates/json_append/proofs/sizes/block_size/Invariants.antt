-- `json_append::sizes::block_size` meets its contract. Its loop: n is the sum over the first k bytes.
-- Assumes nothing.
use Rattle.json_append.specs.Sizes.{byte_size}
use Rattle.json_append.proofs.Sums.{Counted}
use Rattle.json_append.proofs.sizes.block_size.Given as goal

abbrev pub invariant-loop-c : goal.invariant-loop-c
invariant-loop-c l = Counted byte_size 6 (l.block) l.n l.c-index
