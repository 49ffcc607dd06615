-- `recover::sets::members` meets its contract. The invariant: the bits before bit q are listed. Assumes nothing.
use Prim.Native.Nat.{◌-◌}
use mathlib.Core.Path.{◌≡◌}
use lib.ListN.{length}
use Rattle.recover.proofs.SetRules.{Listing}
use Rattle.recover.proofs.sets.members.Given as goal

abbrev pub invariant-loop-q : goal.invariant-loop-q
invariant-loop-q l = (length l.set ≡ length l.initial.set) × Listing l.space l.a l.e l.set l.m l.q

abbrev pub decreases-loop-q : goal.decreases-loop-q
decreases-loop-q l = l.e - l.q
