-- `line_steps::steps::line_steps` meets its contract. Assumes nothing.
use lib.ListN.{length}
use Rattle.model.specs.Listings.{listing_of}
use Rattle.blocks.specs.Structure.{blocks_of}
use Rattle.line_steps.proofs.Edges.{line_drawn}
use Rattle.line_steps.proofs.steps.line_steps.Goals as goal

pub returns-clause-fact : goal.returns-clause-fact
returns-clause-fact c = let K = c.args.blocks.now.keywords in
    let L = listing_of K.code in
    λ z. line_drawn (length K.code.lines.now) c.args.r c.args.i L (blocks_of L) _ _ _ _ _ c.block_steps.ensures (c.jumps.ensures.fact c.if-not-jumps.false) c.leaves.ensures c.loops_back.ensures
