-- `walks::writing::mark_lines` meets its contract. The first i lines are done.
-- Assumes nothing.
use mathlib.Core.Path.{◌≡◌}
use Prim.Native.Nat.{◌≤◌}
use lib.ListN.{length}
use Rattle.definitions.specs.Lists.{up_to}
use Rattle.walks.specs.Lines.{lines_marked}
use Rattle.walks.proofs.writing.mark_lines.Given as goal

abbrev pub invariant-loop-i : goal.invariant-loop-i
invariant-loop-i l = (l.i ≤ l.n) × (length l.marks ≡ length l.initial.marks) × (l.marks ≡ lines_marked l.code.lines.now l.k l.defs l.initial.marks (up_to l.i))
