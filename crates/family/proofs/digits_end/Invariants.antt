-- `family::digits_end` meets its contract. At i, the digits from i on are left.
-- Assumes nothing.
use mathlib.Core.Path.{◌≡◌}
use Prim.Native.Nat.{◌+◌}
use lib.ListN.{drop}
use Rattle.family.specs.Register.{digit_count}
use Rattle.family.proofs.digits_end.Given as goal

abbrev pub invariant-loop-i : goal.invariant-loop-i
invariant-loop-i l = 1 + digit_count (drop 1 l.s) ≡ l.i + digit_count (drop l.i l.s)
