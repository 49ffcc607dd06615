-- `labels::index` meets its contract. Before each time the buckets are empty. Assumes nothing.
use Prim.Native.Nat.{ℕ, ◌<◌}
use mathlib.Core.Path.{◌≡◌}
use lib.ListN.{length, get_or}
use Rattle.labels.specs.Buckets.{size}
use Rattle.labels.proofs.index.Given as goal

abbrev pub invariant-loop : goal.invariant-loop
invariant-loop l = (length l.heads ≡ length l.initial.heads) × (length l.nexts ≡ length l.initial.nexts) × ((b : ℕ) → b < size (length l.heads) → get_or l.heads b 0 ≡ 0)
