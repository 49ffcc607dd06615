-- `sweep::sweep` meets its contract. The invariant: the sweep is done up to the line of bit q. Assumes nothing.
use Prim.Native.Nat.{◌-◌}
use mathlib.Core.Path.{◌≡◌}
use mathlib.Core.Bool.{true}
use lib.ListN.{length}
use Rattle.visit.specs.Steps.{Full}
use Rattle.sweep.proofs.Worklist.{Working}
use Rattle.sweep.proofs.sweep.Given as goal

abbrev pub invariant-loop-q : goal.invariant-loop-q
invariant-loop-q l = let m = l.defs.layout in
    (length l.space ≡ length l.initial.space) × Working m.n m.r m.w l.defs.nums.now l.initial.space l.space l.a l.e l.q l.changed × (l.first ≡ true → Full m.n m.r l.space)

abbrev pub decreases-loop-q : goal.decreases-loop-q
decreases-loop-q l = l.e - l.q
