-- `json_append::writer::copy` meets its contract. The bytes copied so far stand behind what was there.
-- Assumes nothing.
use mathlib.Core.List.{◌++◌}
use mathlib.Core.Path.{◌≡◌}
use Prim.Native.Nat.{◌≤◌, ◌+◌}
use lib.ListN.{length, take}
use Rattle.write.specs.Holds.{Filled}
use Rattle.json_append.proofs.writer.copy.Given as goal

abbrev pub invariant-loop-j : goal.invariant-loop-j
invariant-loop-j l = (l.j ≤ length l.bytes) × (length l.out ≡ length l.initial.out) × Filled (take l.at l.initial.out ++ take l.j l.bytes) (l.at + l.j) l.out
