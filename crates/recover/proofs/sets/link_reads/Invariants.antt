-- `recover::sets::link_reads` meets its contract. The first j reads are done.
-- Assumes nothing.
use mathlib.Core.Path.{◌≡◌}
use lib.ListN.{length, take}
use Rattle.recover.specs.Reaching.{Slices, Links}
use Rattle.recover.proofs.sets.link_reads.Given as goal

abbrev pub invariant-loop-i : goal.invariant-loop-i
invariant-loop-i l = let m = l.defs.layout in
    (length l.space ≡ length l.initial.space) × (length l.rep ≡ length l.initial.rep) × (length l.set ≡ length l.initial.set) × (length l.marks ≡ length l.initial.marks)
    × Slices m.n l.defs.nums.now l.rep l.set l.marks × Links m.n m.r m.w l.defs.nums.now l.initial.space l.space l.initial.rep l.rep (take l.i-index l.reads)
