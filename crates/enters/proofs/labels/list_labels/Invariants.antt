-- `enters::labels::list_labels` meets its contract. The labels listed, then those of the words that are left, are all.
-- Assumes nothing.
use mathlib.Core.Path.{◌≡◌}
use mathlib.Core.List.{◌++◌}
use Prim.Native.Nat.{◌≤◌}
use lib.ListN.{length, take, drop}
use Rattle.definitions.specs.Columns.{listing}
use Rattle.enters.specs.Inside.{labels}
use Rattle.enters.proofs.labels.list_labels.Given as goal

abbrev pub invariant-loop-w : goal.invariant-loop-w
invariant-loop-w l = (l.m ≤ l.w-index) × (length l.list ≡ length l.initial.list) × (take l.m l.list ++ labels (listing l.code.lines.now l.code.tokens.now l.code.text.now) (drop l.w-index l.words) ≡ labels (listing l.code.lines.now l.code.tokens.now l.code.text.now) l.words)
