-- `enters::entering::any_names` meets its contract. Its invariant: what is left to look at.
-- Assumes nothing.
use mathlib.Core.Path.{◌≡◌}
use lib.ListN.{drop}
use Rattle.definitions.specs.Lists.{any}
use Rattle.definitions.specs.Columns.{listing}
use Rattle.enters.specs.Inside.{names}
use Rattle.enters.proofs.entering.any_names.Given as goal

abbrev pub invariant-loop-i : goal.invariant-loop-i
invariant-loop-i l = any (names (listing l.code.lines.now l.code.tokens.now l.code.text.now) l.s) l.labels ≡ any (names (listing l.code.lines.now l.code.tokens.now l.code.text.now) l.s) (drop l.i-index l.labels)
