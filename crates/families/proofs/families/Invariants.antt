-- `families::families` meets its contract. The lines before line i are done.
-- Assumes nothing.
use mathlib.Core.Path.{◌≡◌}
use lib.ListN.{length}
use Rattle.definitions.specs.Columns.{listing}
use Rattle.families.specs.Families.{Numbered}
use Rattle.families.proofs.families.Given as goal

abbrev pub invariant-loop-i : goal.invariant-loop-i
invariant-loop-i l = (length l.table ≡ length l.initial.table) × (length l.defs ≡ length l.initial.defs) × Numbered (listing l.code.lines.now l.code.tokens.now l.code.text.now) l.i l.count l.table l.defs
