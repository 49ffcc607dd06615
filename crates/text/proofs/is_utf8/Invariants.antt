-- `text::is_utf8` meets its contract. At i, what is left decides.
-- Assumes nothing.
use mathlib.Core.Path.{◌≡◌}
use Prim.Native.Nat.{◌-◌, ◌≤◌}
use lib.ListN.{length, drop}
use Rattle.definitions.specs.Utf8.{is_utf8}
use Rattle.text.proofs.is_utf8.Given as goal

abbrev pub invariant-loop-i : goal.invariant-loop-i
invariant-loop-i l = (l.i ≤ length l.s) × (is_utf8 l.s ≡ is_utf8 (drop l.i l.s))

abbrev pub decreases-loop-i : goal.decreases-loop-i
decreases-loop-i l = length l.s - l.i
