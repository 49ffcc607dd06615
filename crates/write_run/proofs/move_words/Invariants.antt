-- `write_run::move_words` meets its contract. The words moved so far stand behind what was there.
-- Assumes nothing.
use mathlib.Core.List.{◌++◌, map}
use mathlib.Core.Path.{◌≡◌}
use Prim.Native.Nat.{◌≤◌, ◌+◌}
use lib.ListN.{length, take}
use Rattle.write.specs.Holds.{Filled}
use Rattle.write_run.specs.Runs.{moved}
use Rattle.write_run.proofs.move_words.Given as goal

abbrev pub invariant-loop-j : goal.invariant-loop-j
invariant-loop-j l = (l.j ≤ length l.run) × (length l.words ≡ length l.initial.words) × Filled (take l.k l.initial.words ++ take l.j (map (moved l.a l.b) l.run)) (l.k + l.j) l.words
