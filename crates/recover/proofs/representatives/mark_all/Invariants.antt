-- `recover::representatives::mark_all` meets its contract. What is left to mark is that of ds from place k on.
-- Assumes nothing.
use mathlib.Core.Path.{◌≡◌}
use lib.ListN.{length, drop}
use Rattle.recover.specs.Numbers.{marked}
use Rattle.recover.proofs.representatives.mark_all.Given as goal

abbrev pub invariant-loop-k : goal.invariant-loop-k
invariant-loop-k l = (length l.marks ≡ length l.initial.marks) × (marked l.rep l.marks (drop l.k l.ds) ≡ marked l.rep l.initial.marks l.ds)
