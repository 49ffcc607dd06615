-- `family::row_named` meets its contract. No row before row i has the name.
-- Assumes nothing.
use Prim.Native.Nat.{ℕ, ◌<◌, ◌≤◌}
use mathlib.Core.Path.{◌≡◌}
use mathlib.Core.Bool.{false}
use Rattle.definitions.specs.Lists.{◌≟◌}
use Rattle.legacy.specs.Table.{row_name}
use Rattle.family.proofs.row_named.Given as goal

abbrev pub invariant-loop-i : goal.invariant-loop-i
invariant-loop-i l = (l.i ≤ 8) × ((j : ℕ) → j < l.i → (l.name ≟ row_name j) ≡ false)
