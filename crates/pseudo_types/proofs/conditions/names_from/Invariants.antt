-- `pseudo_types::conditions::names_from` meets its contract. The answer is what is left to look for from token j on.
-- Assumes nothing.
use mathlib.Core.Path.{◌≡◌}
use Rattle.definitions.specs.Lists.{any}
use Rattle.definitions.specs.Model.{line}
use Rattle.definitions.specs.Columns.{listing}
use Rattle.family.specs.Register.{family_of, names_family}
use Rattle.pseudo_types.specs.Cuts.{cut_run}
use Rattle.pseudo_types.proofs.conditions.names_from.Given as goal

abbrev pub invariant-loop-j : goal.invariant-loop-j
invariant-loop-j l = any (names_family (family_of l.s l.r)) (cut_run (line (listing l.code.lines.now l.code.tokens.now l.code.text.now) l.i) l.k l.end l.from) ≡ any (names_family (family_of l.s l.r)) (cut_run (line (listing l.code.lines.now l.code.tokens.now l.code.text.now) l.i) l.k l.end l.j)
