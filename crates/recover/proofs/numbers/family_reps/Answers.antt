-- `recover::numbers::family_reps` meets its contract. By its calls.
-- Assumes nothing.
use Rattle.recover.proofs.LinkReads.{alone_slices, family_by}
use Rattle.recover.proofs.numbers.family_reps.Goals as goal

pub link_reads-requires : goal.link_reads-requires
link_reads-requires c = let m = c.args.defs.now.layout in
    (c.requires.swept.0, c.requires.swept.1, alone_slices _ m.r m.w _ c.args.space.now _ _ _ c.args.reads.now c.requires.sized.0 c.requires.sized.3 _ c.alone.ensures)

pub returns : goal.returns
returns c = family_by _ _ _ _ _ _ _ _ _ c.requires.sized.0 c.requires.sized.3 _ c.alone.ensures _ _ _ c.link_reads.ensures c.ranks.ensures
