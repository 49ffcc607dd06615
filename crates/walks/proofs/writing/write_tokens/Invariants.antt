-- `walks::writing::write_tokens` meets its contract. The tokens of the family before place p are done.
-- Assumes nothing.
use mathlib.Core.Path.{◌≡◌}
use Prim.Native.Nat.{◌-◌}
use lib.ListN.{length}
use Rattle.walks.specs.Lines.{WroteTo}
use Rattle.walks.proofs.writing.write_tokens.Given as goal

abbrev pub invariant-loop-p : goal.invariant-loop-p
invariant-loop-p l = WroteTo l.code.lines.now l.code.tokens.now l.code.text.now l.k l.defs l.own l.read l.initial.numbers l.p l.numbers × (length l.numbers ≡ length l.initial.numbers)

abbrev pub decreases-loop-p : goal.decreases-loop-p
decreases-loop-p l = length l.code.tokens.now - l.p
