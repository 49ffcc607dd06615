-- `recover::representatives::alone` meets its contract. The first d words are 0, 1, .. .
-- Assumes nothing.
use mathlib.Core.Path.{◌≡◌}
use lib.ListN.{length}
use Rattle.recover.proofs.RepresentativeRules.{counting}
use Rattle.recover.proofs.representatives.alone.Given as goal

abbrev pub invariant-loop-d : goal.invariant-loop-d
invariant-loop-d l = (length l.rep ≡ length l.initial.rep) × (l.rep ≡ counting l.initial.rep l.d)
