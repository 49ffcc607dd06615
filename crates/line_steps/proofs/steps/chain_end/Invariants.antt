-- `line_steps::steps::chain_end` meets its contract. The chain of line c ends where that of the close `at` does.
-- Assumes nothing.
use Prim.Native.Nat.{◌-◌, ◌<◌}
use mathlib.Core.Path.{◌≡◌}
use lib.ListN.{length}
use Rattle.definitions.specs.FlowGraph.{chain_end}
use Rattle.model.specs.Listings.{listing_of}
use Rattle.blocks.specs.Structure.{blocks_of}
use Rattle.line_steps.proofs.steps.chain_end.Given as goal

abbrev pub invariant-loop-e : goal.invariant-loop-e
invariant-loop-e l = let L = listing_of l.blocks.keywords.code in
    (l.at < length l.blocks.keywords.code.lines.now) × (chain_end L (blocks_of L) (length L) l.c ≡ chain_end L (blocks_of L) (length L) l.at)

abbrev pub decreases-loop-e : goal.decreases-loop-e
decreases-loop-e l = length l.blocks.keywords.code.lines.now - l.at
