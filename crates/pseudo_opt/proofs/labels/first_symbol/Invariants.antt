-- `pseudo_opt::labels::first_symbol` meets its contract. The answer is what is left to look for from token j on. Assumes nothing.
use mathlib.Core.Path.{◌≡◌}
use Prim.Native.Nat.{◌+◌, ◌≤◌}
use lib.ListN.{drop}
use Rattle.definitions.specs.Model.{line}
use Rattle.definitions.specs.Columns.{listing}
use Rattle.definitions.specs.Statements.{first_symbol}
use Rattle.pseudo_opt.proofs.labels.first_symbol.Given as goal

abbrev pub invariant-loop-j : goal.invariant-loop-j
invariant-loop-j l = (l.j ≤ l.n) × (first_symbol (drop (l.k + 1) (line (listing l.code.lines.now l.code.tokens.now l.code.text.now) l.i).tokens) ≡ first_symbol (drop l.j (line (listing l.code.lines.now l.code.tokens.now l.code.text.now) l.i).tokens))
