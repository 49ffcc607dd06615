-- `pseudo_opt::keywords::keyword_at` meets its contract. The answer is what is left to look for from place k on.
-- Assumes nothing.
use mathlib.Core.Path.{◌≡◌}
use Prim.Native.Nat.{◌≤◌}
use Rattle.definitions.specs.Lists.{position}
use Rattle.definitions.specs.Model.{line}
use Rattle.definitions.specs.Columns.{listing}
use Rattle.definitions.specs.Statements.{is_kw}
use Rattle.pseudo_opt.proofs.Passes.{placed}
use Rattle.pseudo_opt.proofs.keywords.keyword_at.Given as goal

abbrev pub invariant-loop-k : goal.invariant-loop-k
invariant-loop-k l = (l.s ≤ l.k) × (position (is_kw l.kw) (line (listing l.code.lines.now l.code.tokens.now l.code.text.now) l.i).tokens ≡ placed (is_kw l.kw) l.code.lines.now l.code.tokens.now l.code.text.now l.i l.s l.k)
