-- `recover::representatives::ranks` meets its contract. The first d ranks stand, and count is the next.
-- Assumes nothing.
use mathlib.Core.Path.{◌≡◌}
use Prim.Native.Nat.{◌≤◌}
use lib.ListN.{length}
use Rattle.recover.specs.Numbers.{earlier}
use Rattle.recover.proofs.RepresentativeRules.{ranked}
use Rattle.recover.proofs.representatives.ranks.Given as goal

abbrev pub invariant-loop-d : goal.invariant-loop-d
invariant-loop-d l = (length l.rank ≡ length l.initial.rank) × (l.rank ≡ ranked l.rep l.initial.rank l.d) × (l.count ≡ earlier l.rep l.d) × (l.count ≤ l.d)
