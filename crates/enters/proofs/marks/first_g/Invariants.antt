-- `enters::marks::first_g` meets its contract. The answer is what is left to look for from place k on.
-- Assumes nothing.
use mathlib.Core.Path.{◌≡◌}
use Prim.Native.Nat.{◌≤◌}
use Rattle.definitions.specs.Lists.{position}
use Rattle.definitions.specs.Model.{line}
use Rattle.definitions.specs.Columns.{listing}
use Rattle.pseudo_opt.proofs.Passes.{placed}
use Rattle.enters.specs.Marks.{has_g}
use Rattle.enters.proofs.marks.first_g.Given as goal

abbrev pub invariant-loop-k : goal.invariant-loop-k
invariant-loop-k l = (l.s ≤ l.k) × (position has_g (line (listing l.code.lines.now l.code.tokens.now l.code.text.now) l.i).tokens ≡ placed has_g l.code.lines.now l.code.tokens.now l.code.text.now l.i l.s l.k)
