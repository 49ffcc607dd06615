-- The text of what is left is not written yet.
use lib.ListN.{length}
use Prim.Native.Nat.{◌≤◌}
use Rattle.json_definitions.specs.Writer.{characters_text}
use Rattle.json_append.specs.Appended.{Begun}
use Rattle.json_append.proofs.writer.Writer.put_plain.Given as goal

abbrev pub invariant-loop-c : goal.invariant-loop-c
invariant-loop-c l = Begun l.fn.self (characters_text l.s) l.self (characters_text l.rest) × (length l.rest ≤ length l.s)

abbrev pub decreases-loop-c : goal.decreases-loop-c
decreases-loop-c l = length l.rest
