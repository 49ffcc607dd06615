-- `memo::slots::pack` meets its contract. The number is what the bytes from k on make of the one so far. Assumes nothing.
use Prim.Native.Nat.{◌≤◌}
use mathlib.Core.Path.{◌≡◌}
use lib.ListN.{length, drop}
use Rattle.definitions.specs.Lists.{fold}
use Rattle.memo.specs.Texts.{digit, pack}
use Rattle.memo.proofs.slots.pack.Given as goal

abbrev pub invariant-loop-b : goal.invariant-loop-b
invariant-loop-b l = (l.b-index ≤ length l.s) × (pack l.s ≡ fold digit l.p (drop l.b-index l.s))
