-- `labels::index_all` meets its contract. The labels of the first i lines are in their buckets. Assumes nothing.
use Prim.Native.Nat.{◌≤◌}
use mathlib.Core.Path.{◌≡◌}
use lib.ListN.{length}
use Rattle.definitions.specs.Columns.{listing}
use Rattle.labels.specs.Buckets.{Indexed}
use Rattle.labels.proofs.index_all.Given as goal

abbrev pub invariant-loop-i : goal.invariant-loop-i
invariant-loop-i l = (l.i ≤ length l.code.lines.now) × (length l.heads ≡ length l.initial.heads) × (length l.nexts ≡ length l.initial.nexts) × Indexed (listing l.code.lines.now l.code.tokens.now l.code.text.now) l.heads l.nexts l.i
