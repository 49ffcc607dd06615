-- `enters::entering::any_goes_inside` meets its contract. The answer is what is left to look at.
-- Assumes nothing.
use mathlib.Core.Path.{◌≡◌}
use lib.ListN.{drop}
use Rattle.definitions.specs.Lists.{any}
use Rattle.definitions.specs.Columns.{listing}
use Rattle.enters.specs.Inside.{goes_inside}
use Rattle.enters.proofs.entering.any_goes_inside.Given as goal

abbrev pub invariant-loop-w : goal.invariant-loop-w
invariant-loop-w l = any (goes_inside (listing l.code.lines.now l.code.tokens.now l.code.text.now) l.labels) l.words ≡ any (goes_inside (listing l.code.lines.now l.code.tokens.now l.code.text.now) l.labels) (drop l.w-index l.words)
