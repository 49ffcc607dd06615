-- `splits::starts::starts` meets its contract. The lines before line i are done. Assumes nothing.
use mathlib.Core.Path.{◌≡◌}
use lib.ListN.{length}
use Rattle.definitions.specs.Columns.{listing}
use Rattle.splits.specs.Starts.{Starting}
use Rattle.splits.proofs.starts.starts.Given as goal

abbrev pub invariant-loop-i : goal.invariant-loop-i
invariant-loop-i l = (length l.defs ≡ length l.initial.defs) × Starting (listing l.code.lines.now l.code.tokens.now l.code.text.now) l.far l.i l.reach l.defs
