-- `numbering::number_defs` meets its contract. The first i lines are done.
-- Assumes nothing.
use mathlib.Core.Path.{◌≡◌}
use lib.ListN.{length}
use Rattle.numbering.specs.Lines.{Owned}
use Rattle.numbering.proofs.number_defs.Given as goal

abbrev pub invariant-loop-i : goal.invariant-loop-i
invariant-loop-i l = (length l.own ≡ length l.initial.own) × Owned l.nums l.rep l.i l.own
