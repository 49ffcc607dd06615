-- `negate::adding::add_test_tokens` meets its contract. The tokens appended so far.
-- Assumes nothing.
use Rattle.append.specs.Adds.{Adding, whole}
use Rattle.negate.specs.Comparisons.{negated_token}
use Rattle.definitions.specs.Columns.{listing}
use Rattle.definitions.specs.Model.{line}
use Rattle.definitions.specs.Lists.{range}
use Prim.Native.Nat.{◌≤◌}
use mathlib.Core.Bool.{true}
use mathlib.Core.List.{map}
use Rattle.negate.proofs.adding.add_test_tokens.Given as goal

abbrev pub invariant-loop-k : goal.invariant-loop-k
invariant-loop-k l = (l.k ≤ l.m) × Adding true (whole (map (negated_token (line (listing l.code.lines.now l.code.tokens.now l.code.text.now) l.i) l.m l.o) (range 0 l.k))) l.initial.out l.out
