-- `recover::representatives::merge` meets its contract. The first d are done.
-- Assumes nothing.
use mathlib.Core.Path.{◌≡◌}
use lib.ListN.{length}
use Rattle.text.proofs.Fills.{filled}
use Rattle.recover.specs.Numbers.{merged}
use Rattle.recover.proofs.representatives.merge.Given as goal

abbrev pub invariant-loop-r : goal.invariant-loop-r
invariant-loop-r l = (length l.rep ≡ length l.initial.rep) × (l.rep ≡ filled (merged l.m l.marks) l.initial.rep l.initial.rep l.r-index)
