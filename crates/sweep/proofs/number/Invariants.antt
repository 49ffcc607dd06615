-- `sweep::number` meets its contract. The invariant: the lines below i are numbered. Assumes nothing.
use Prim.Native.Nat.{◌≤◌}
use mathlib.Core.Path.{◌≡◌}
use lib.ListN.{length}
use Rattle.visit.specs.Numbers.{Numbering}
use Rattle.sweep.proofs.number.Given as goal

abbrev pub invariant-loop-i : goal.invariant-loop-i
invariant-loop-i l = (l.n ≤ length l.nums) × (length l.nums ≡ length l.initial.nums) × Numbering l.families l.f l.nums l.i l.c
