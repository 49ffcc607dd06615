-- `braces::line_braces` meets its contract. The answer is what the tokens from place k on make of the counts so far, and a token has at most 24 bits of bytes. Assumes nothing.
use mathlib.Core.Path.{◌≡◌}
use Prim.Native.Nat.{◌+◌, ◌-◌, ◌*◌, ◌≤◌}
use Rattle.definitions.specs.Lists.{fold}
use Rattle.definitions.specs.Model.{line}
use Rattle.definitions.specs.Columns.{listing}
use Rattle.definitions.specs.Blocks.{brace, braces}
use Rattle.braces.specs.Counted.{counted}
use Rattle.braces.proofs.Counts.{rest}
use Rattle.braces.proofs.line_braces.Given as goal

abbrev pub invariant-loop-k : goal.invariant-loop-k
invariant-loop-k l = (l.s ≤ l.k) × (braces (line (listing l.code.lines.now l.code.tokens.now l.code.text.now) l.i) ≡ fold brace (counted l.b) (rest (line (listing l.code.lines.now l.code.tokens.now l.code.text.now) l.i).tokens (l.k - l.s))) × (l.b.opens + l.b.closes ≤ (l.k - l.s) * 16777215)
