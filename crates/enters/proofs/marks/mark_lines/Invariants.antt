-- `enters::marks::mark_lines` meets its contract. Line by line.
-- Assumes nothing.
use Prim.Native.Nat.{◌≤◌}
use lib.ListN.{length}
use Rattle.definitions.specs.Columns.{listing}
use Rattle.enters.proofs.MarkRules.{Marking}
use Rattle.enters.proofs.marks.mark_lines.Given as goal

abbrev pub invariant-loop-i : goal.invariant-loop-i
invariant-loop-i l = (l.i ≤ length l.code.lines.now) × Marking (listing l.code.lines.now l.code.tokens.now l.code.text.now) l.initial.marks l.marks l.i
