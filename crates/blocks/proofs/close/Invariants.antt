-- `blocks::close` meets its contract. What the definition has left to close, from the stack as it is now, is what it had to close from the stack at entry. Assumes nothing.
use Prim.Native.Nat.{◌-◌, ◌<◌, ◌≤◌}
use mathlib.Core.Path.{◌≡◌}
use lib.ListN.{length}
use Rattle.definitions.specs.Blocks.{Open}
use Rattle.blocks.specs.Stack.{Held, Closing}
use Rattle.blocks.proofs.close.Given as goal

abbrev pub invariant-loop-j : goal.invariant-loop-j
invariant-loop-j l = (l.j ≤ l.k) × (length l.ends ≡ length l.initial.ends) × (length l.counts ≡ length l.initial.counts) × ((o : Open) → Held l.initial.ends l.parents l.initial.counts l.top l.i o → l.i < length o.ends → Closing l.i l.k (l.k - l.j) o l.ends l.parents l.counts l.p)
