-- `line_keywords::mask` meets its contract. The bits of the tokens from place k on are to come.
-- Assumes nothing.
use mathlib.Core.Path.{◌≡◌}
use Prim.Native.Nat.{◌≤◌}
use Rattle.definitions.specs.Model.{line}
use Rattle.definitions.specs.Columns.{listing}
use Rattle.line_keywords.specs.Masks.{mask}
use Rattle.line_keywords.proofs.Filling.{from}
use Rattle.line_keywords.proofs.mask.Given as goal

abbrev pub invariant-loop-k : goal.invariant-loop-k
invariant-loop-k l = (l.s ≤ l.k) × (mask (line (listing l.code.lines.now l.code.tokens.now l.code.text.now) l.i) ≡ from l.code.lines.now l.code.tokens.now l.code.text.now l.i l.s l.k l.m)
