-- `text::zero` meets its contract. Zeros stand up to the word's place.
-- Assumes nothing.
use mathlib.Core.Path.{◌≡◌}
use mathlib.Core.List.{◌++◌}
use lib.ListN.{drop, replicate}
use Rattle.text.proofs.zero.Given as goal

abbrev pub invariant-loop-word : goal.invariant-loop-word
invariant-loop-word g l = l.word-items ≡ replicate l.word-index g.T.Unsigned.ZERO ++ drop l.word-index l.initial.word-items
