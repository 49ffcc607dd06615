-- `families::rehash` meets its contract. The first k families are in chains.
-- Assumes nothing.
use mathlib.Core.Path.{◌≡◌}
use Prim.Native.Nat.{◌+◌, ◌*◌, ◌≤◌}
use lib.ListN.{length}
use Rattle.definitions.specs.Columns.{listing}
use Rattle.families.specs.Families.{Linked}
use Rattle.families.proofs.rehash.Given as goal

abbrev pub invariant-loop-k : goal.invariant-loop-k
invariant-loop-k l = (l.k ≤ l.count) × (256 + 2 * l.count ≤ length l.table) × (length l.table ≡ length l.initial.table) × Linked (listing l.code.lines.now l.code.tokens.now l.code.text.now) l.count l.k l.table
