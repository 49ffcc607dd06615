-- `blocks::blocks` meets its contract. The columns stand for what the definition has at line i, and the rest of the listing is left to read. Assumes nothing.
use Prim.Native.Nat.{◌≤◌}
use mathlib.Core.Path.{◌≡◌}
use lib.ListN.{length}
use Rattle.definitions.specs.Columns.{listing}
use Rattle.blocks.proofs.Reading.{Reading}
use Rattle.blocks.proofs.blocks.Given as goal

abbrev pub invariant-loop-i : goal.invariant-loop-i
invariant-loop-i l = (l.i ≤ length l.code.lines.now) × (length l.ends ≡ length l.initial.ends) × (length l.parents ≡ length l.initial.parents) × (length l.counts ≡ length l.initial.counts) × Reading (listing l.code.lines.now l.code.tokens.now l.code.text.now) l.ends l.parents l.counts l.top l.i
