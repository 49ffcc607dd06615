-- `line_keywords::masks` meets its contract. The lines below i have their masks.
-- Assumes nothing.
use Prim.Native.Nat.{◌≤◌}
use lib.ListN.{length}
use mathlib.Core.Path.{◌≡◌}
use Rattle.line_keywords.proofs.Filling.{Filling}
use Rattle.line_keywords.proofs.masks.Given as goal

abbrev pub invariant-loop-i : goal.invariant-loop-i
invariant-loop-i l = (l.i ≤ length l.code.lines.now) × Filling l.code.lines.now l.code.tokens.now l.code.text.now l.masks l.i × (length l.masks ≡ length l.initial.masks)
