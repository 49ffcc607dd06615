-- `write::copy` meets its contract. The bytes copied so far stand behind what was there.
-- Assumes nothing.
use mathlib.Core.List.{◌++◌}
use mathlib.Core.Path.{◌≡◌}
use Prim.Native.Nat.{◌≤◌, ◌+◌}
use lib.ListN.{length, take}
use Rattle.write.specs.Holds.{Filled}
use Rattle.write.proofs.copy.Given as goal

abbrev pub invariant-loop-j : goal.invariant-loop-j
invariant-loop-j l = (l.j ≤ length l.bytes) × (length l.text ≡ length l.initial.text) × Filled (take l.from l.initial.text ++ take l.j l.bytes) (l.from + l.j) l.text
