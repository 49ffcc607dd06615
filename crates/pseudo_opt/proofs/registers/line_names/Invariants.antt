-- `pseudo_opt::registers::line_names` meets its contract. The answer is what is left to look for from token j on. Assumes nothing.
use mathlib.Core.Path.{◌≡◌}
use Prim.Native.Nat.{◌≤◌}
use lib.ListN.{drop}
use Rattle.definitions.specs.Lists.{any}
use Rattle.definitions.specs.Model.{line}
use Rattle.definitions.specs.Columns.{listing}
use Rattle.family.specs.Register.{family_of, names_family}
use Rattle.pseudo_opt.proofs.registers.line_names.Given as goal

abbrev pub invariant-loop-j : goal.invariant-loop-j
invariant-loop-j l = (l.j ≤ l.n) × (any (names_family (family_of l.s l.r)) (line (listing l.code.lines.now l.code.tokens.now l.code.text.now) l.i).tokens ≡ any (names_family (family_of l.s l.r)) (drop l.j (line (listing l.code.lines.now l.code.tokens.now l.code.text.now) l.i).tokens))
