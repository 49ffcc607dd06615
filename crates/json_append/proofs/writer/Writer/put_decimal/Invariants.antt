-- The digits so far are written.
use lib.ListN.{take}
use Rattle.json_append.specs.Appended.{Wrote}
use Rattle.json_append.proofs.writer.Writer.put_decimal.Given as goal

abbrev pub invariant-loop-digit : goal.invariant-loop-digit
invariant-loop-digit l = Wrote l.fn.self (take l.digit-index l.text) l.self
