-- `negate::comparison::scan` meets its contract. The answer is what the tokens from k on make of what is seen so far; a token has at most 24 bits of bytes.
-- Assumes nothing.
use Rattle.negate.specs.Comparisons.{seen, weight}
use Rattle.negate.specs.Tests.{test_from, test_tokens}
use Rattle.definitions.specs.Condition.{nothing_seen, scan}
use Rattle.definitions.specs.Columns.{listing}
use Rattle.definitions.specs.Model.{line}
use Prim.Native.Nat.{◌*◌, ◌≤◌}
use mathlib.Core.Path.{◌≡◌}
use Rattle.negate.proofs.comparison.scan.Given as goal

abbrev pub invariant-loop-k : goal.invariant-loop-k
invariant-loop-k l = (l.k ≤ l.m) × (scan 0 (test_tokens (line (listing l.code.lines.now l.code.tokens.now l.code.text.now) l.i) l.m) nothing_seen ≡ scan l.k (test_from (line (listing l.code.lines.now l.code.tokens.now l.code.text.now) l.i) l.m l.k) (seen l.r)) × (weight l.r ≤ l.k * 50331645)
