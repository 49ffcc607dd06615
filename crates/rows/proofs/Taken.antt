-- The first words of a column, as many as there are.
--   taken_less       they are no more than all
--   taken            the rules
-- Assumes nothing.
use Prim.Native.Nat.{ℕ, ◌≤◌}
use mathlib.Core.List.{List}
use native.Mathlib.Omega.{arith}
use lib.ListN.{length, take, length-take}

pub taken_less : {A : Type 0} (n : ℕ) (xs : List A) → length (take n xs) ≤ length xs
taken_less n xs = rw length-take (omega arith)

pub ruleset taken = (taken_less)
