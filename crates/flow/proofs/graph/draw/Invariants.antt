-- `flow::graph::draw` meets its contract. The edges of the lines from i on are left to draw, and the answer is theirs. Assumes nothing.
use Prim.Native.Nat.{◌≤◌}
use mathlib.Core.Path.{◌≡◌}
use lib.ListN.{length}
use Rattle.definitions.specs.FlowGraph.{gotos_lead}
use Rattle.model.specs.Listings.{listing_of}
use Rattle.line_steps.specs.Drawing.{Drawing, rest}
use Rattle.blocks.specs.Structure.{blocks_of}
use Rattle.flow.proofs.Graphs.{lines_from}
use Rattle.flow.proofs.graph.draw.Given as goal

abbrev pub invariant-loop-i : goal.invariant-loop-i
invariant-loop-i l = let L = listing_of l.blocks.keywords.code in
    let n = length l.blocks.keywords.code.lines.now in
    (l.i ≤ n) × (length l.space ≡ length l.initial.space) × (gotos_lead L ≡ lines_from L n l.i) × Drawing n l.r l.initial.space l.space (rest L (blocks_of L) 0) (rest L (blocks_of L) l.i)
