-- `numbering::number_reads` meets its contract. The first j reads are done.
-- Assumes nothing.
use mathlib.Core.Path.{◌≡◌}
use lib.ListN.{length, take}
use Rattle.numbering.specs.Lines.{Reads}
use Rattle.numbering.proofs.number_reads.Given as goal

abbrev pub invariant-loop-i : goal.invariant-loop-i
invariant-loop-i l = let m = l.family.layout in
    (length l.space ≡ length l.initial.space) × (length l.read ≡ length l.initial.read)
    × Reads m.n m.r m.w l.family.nums.now l.initial.space l.space l.rep (take l.i-index l.reads) l.initial.read l.read
