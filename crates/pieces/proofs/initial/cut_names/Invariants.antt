-- `pieces::initial::cut_names` meets its contract. The answer is what is left to look at.
-- Assumes nothing.
use Rattle.pieces.specs.Initial.{cut_from}
use Rattle.family.specs.Register.{family_of, names_family}
use Rattle.definitions.specs.Columns.{listing}
use Rattle.definitions.specs.Model.{line}
use Rattle.definitions.specs.Lists.{any}
use mathlib.Core.Path.{◌≡◌}
use Rattle.pieces.proofs.initial.cut_names.Given as goal

abbrev pub invariant-loop-j : goal.invariant-loop-j
invariant-loop-j l = any (names_family (family_of l.s l.r)) (cut_from (line (listing l.code.lines.now l.code.tokens.now l.code.text.now) l.i) l.a) ≡ any (names_family (family_of l.s l.r)) (cut_from (line (listing l.code.lines.now l.code.tokens.now l.code.text.now) l.i) l.j)
