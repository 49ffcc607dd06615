-- `loops::for_loops::rest_names` meets its contract. The answer is what is left to look for from token j on.
-- Assumes nothing.
use mathlib.Core.Path.{◌≡◌}
use lib.ListN.{drop}
use Rattle.definitions.specs.Lists.{any}
use Rattle.definitions.specs.Model.{line}
use Rattle.definitions.specs.Columns.{listing}
use Rattle.family.specs.Register.{family_of, names_family}
use Rattle.loops.proofs.for_loops.rest_names.Given as goal

abbrev pub invariant-loop-j : goal.invariant-loop-j
invariant-loop-j l = any (names_family (family_of l.s l.r)) (drop 1 (line (listing l.code.lines.now l.code.tokens.now l.code.text.now) l.i).tokens) ≡ any (names_family (family_of l.s l.r)) (drop l.j (line (listing l.code.lines.now l.code.tokens.now l.code.text.now) l.i).tokens)
