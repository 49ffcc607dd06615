-- `braces::in_text` meets its contract. The answer is what the bytes left make of the counts so far, and those have grown by no
-- more than the bytes passed. Assumes nothing.
use mathlib.Core.Path.{◌≡◌}
use Prim.Native.Nat.{◌+◌, ◌-◌, ◌≤◌}
use lib.ListN.{length, drop}
use Rattle.definitions.specs.Lists.{fold}
use Rattle.definitions.specs.Blocks.{brace}
use Rattle.braces.specs.Counted.{counted}
use Rattle.braces.proofs.in_text.Given as goal

abbrev pub invariant-loop-byte : goal.invariant-loop-byte
invariant-loop-byte l = (fold brace (counted l.initial.r) l.s ≡ fold brace (counted l.r) (drop l.byte-index l.s)) × (l.r.opens + l.r.closes + (length l.s - l.byte-index) ≤ l.initial.r.opens + l.initial.r.closes + length l.s)
