-- `crossings::mark_lines` meets its contract. The gotos of the lines from i on are left to mark. Assumes nothing.
use mathlib.Core.Path.{◌≡◌}
use lib.ListN.{length}
use Rattle.definitions.specs.Columns.{listing}
use Rattle.definitions.specs.SplitPoints.{all_jumps}
use Rattle.crossings.specs.Crossed.{Marking}
use Rattle.crossings.proofs.Joins.{lines_from}
use Rattle.crossings.proofs.mark_lines.Given as goal

abbrev pub invariant-loop-i : goal.invariant-loop-i
invariant-loop-i l = (length l.far ≡ length l.initial.far) × Marking l.initial.far l.far (all_jumps (listing l.labels.code.lines.now l.labels.code.tokens.now l.labels.code.text.now)) (lines_from (listing l.labels.code.lines.now l.labels.code.tokens.now l.labels.code.text.now) l.i)
