-- `line_steps::steps::leave_all` meets its contract. The blocks from the opener `around` outwards are left to draw. Assumes nothing.
use Prim.Native.Nat.{◌≤◌}
use mathlib.Core.Path.{◌≡◌}
use lib.ListN.{length, get_or}
use Rattle.model.specs.Listings.{listing_of}
use Rattle.line_steps.specs.Drawing.{Drawing, from, lefts}
use Rattle.blocks.specs.Entries.{entry, linked}
use Rattle.blocks.specs.Structure.{blocks_of}
use Rattle.line_steps.proofs.steps.leave_all.Given as goal

abbrev pub invariant-loop-around : goal.invariant-loop-around
invariant-loop-around l = let L = listing_of l.blocks.keywords.code in
    let ps = l.blocks.parents.now in
    (entry l.around ≤ l.i) × (length l.space ≡ length l.initial.space)
    × Drawing (length l.blocks.keywords.code.lines.now) l.r l.initial.space l.space (from l.i (lefts L (blocks_of L) (linked ps l.i (get_or ps l.i 0)))) (from l.i (lefts L (blocks_of L) (linked ps (entry l.around) (entry l.around))))

abbrev pub decreases-loop-around : goal.decreases-loop-around
decreases-loop-around l = entry l.around
