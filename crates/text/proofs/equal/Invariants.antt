-- `text::equal` meets its contract. At i, what is left to compare decides.
-- Assumes nothing.
use mathlib.Core.Path.{◌≡◌}
use lib.ListN.{drop}
use Rattle.definitions.specs.Lists.{◌≟◌}
use Rattle.text.proofs.equal.Given as goal

abbrev pub invariant-loop-i : goal.invariant-loop-i
invariant-loop-i l = (l.a ≟ l.b) ≡ (drop l.i l.a ≟ drop l.i l.b)
