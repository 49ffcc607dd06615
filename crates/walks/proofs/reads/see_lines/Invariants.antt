-- `walks::reads::see_lines` meets its contract. The lines that read the family before place p are marked.
-- Assumes nothing.
use mathlib.Core.Path.{◌≡◌}
use Prim.Native.Nat.{◌-◌}
use lib.ListN.{length}
use Rattle.walks.specs.Lines.{SeenTo}
use Rattle.walks.proofs.reads.see_lines.Given as goal

abbrev pub invariant-loop-p : goal.invariant-loop-p
invariant-loop-p l = (length l.seen ≡ length l.initial.seen) × SeenTo l.code.lines.now l.code.tokens.now l.code.text.now l.defs l.k l.p l.seen

abbrev pub decreases-loop-p : goal.decreases-loop-p
decreases-loop-p l = length l.code.tokens.now - l.p
