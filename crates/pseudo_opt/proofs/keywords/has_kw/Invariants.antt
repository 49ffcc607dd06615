-- `pseudo_opt::keywords::has_kw` meets its contract. The answer is that of the tokens from place k on.
-- Assumes nothing.
use mathlib.Core.Path.{◌≡◌}
use Prim.Native.Nat.{◌≤◌}
use Rattle.definitions.specs.Model.{line}
use Rattle.definitions.specs.Columns.{listing}
use Rattle.definitions.specs.Statements.{is_kw, has_kw}
use Rattle.pseudo_opt.proofs.Passes.{from}
use Rattle.pseudo_opt.proofs.keywords.has_kw.Given as goal

abbrev pub invariant-loop-k : goal.invariant-loop-k
invariant-loop-k l = (l.s ≤ l.k) × (has_kw (line (listing l.code.lines.now l.code.tokens.now l.code.text.now) l.i) l.kw ≡ from (is_kw l.kw) l.code.lines.now l.code.tokens.now l.code.text.now l.i l.s l.k)
