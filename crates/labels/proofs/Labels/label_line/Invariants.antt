-- `labels::Labels::label_line` meets its contract. The answer is what is left to find from the entry p on, which only falls. Assumes nothing.
use Prim.Native.Nat.{◌≤◌}
use mathlib.Core.Path.{◌≡◌}
use lib.ListN.{length}
use Rattle.definitions.specs.FlowGraph.{label_line}
use Rattle.definitions.specs.Columns.{listing}
use Rattle.labels.specs.Buckets.{lookup}
use Rattle.labels.proofs.Labels.label_line.Given as goal

abbrev pub invariant-loop-p : goal.invariant-loop-p
invariant-loop-p l = (l.p ≤ length l.self.code.lines.now) × (label_line (listing l.self.code.lines.now l.self.code.tokens.now l.self.code.text.now) l.s ≡ lookup (listing l.self.code.lines.now l.self.code.tokens.now l.self.code.text.now) l.self.nexts.now l.p l.p l.s)

abbrev pub decreases-loop-p : goal.decreases-loop-p
decreases-loop-p l = l.p
