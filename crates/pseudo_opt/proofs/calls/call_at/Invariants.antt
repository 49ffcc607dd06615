-- `pseudo_opt::calls::call_at` meets its contract. The answer is what is left to look for from token j - 1 on. Assumes nothing.
use mathlib.Core.Path.{◌≡◌}
use Prim.Native.Nat.{◌<◌}
use Rattle.definitions.specs.Model.{line}
use Rattle.definitions.specs.Columns.{listing}
use Rattle.definitions.specs.Statements.{callee}
use Rattle.pseudo_opt.proofs.Callees.{callee_from}
use Rattle.pseudo_opt.proofs.calls.call_at.Given as goal

abbrev pub invariant-loop-j : goal.invariant-loop-j
invariant-loop-j l = (0 < l.j) × (callee (line (listing l.code.lines.now l.code.tokens.now l.code.text.now) l.i).tokens ≡ callee_from (line (listing l.code.lines.now l.code.tokens.now l.code.text.now) l.i).tokens l.j)
