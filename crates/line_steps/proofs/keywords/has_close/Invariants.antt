-- `line_steps::keywords::has_close` meets its contract. The answer is that of the tokens from place k on.
-- Assumes nothing.
use mathlib.Core.Path.{◌≡◌}
use mathlib.Core.Bool.{◌&&◌}
use Prim.Native.Nat.{◌≤◌}
use lib.Dec.{eqb}
use Rattle.definitions.specs.Columns.{listing}
use Rattle.definitions.specs.Model.{line, Punct}
use Rattle.definitions.specs.Lists.{any, contains}
use Rattle.pseudo_opt.proofs.Passes.{from}
use Rattle.line_steps.proofs.keywords.has_close.Given as goal

abbrev pub invariant-loop-k : goal.invariant-loop-k
invariant-loop-k l = (l.s ≤ l.k) × (any (λ t. eqb t.kind Punct && contains 125 t.text) (line (listing l.code.lines.now l.code.tokens.now l.code.text.now) l.i).tokens ≡ from (λ t. eqb t.kind Punct && contains 125 t.text) l.code.lines.now l.code.tokens.now l.code.text.now l.i l.s l.k)
