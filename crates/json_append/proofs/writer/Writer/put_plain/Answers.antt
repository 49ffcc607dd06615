use native.Mathlib.Omega.{arith}
use Rattle.json_append.proofs.StringRules.{run_byte}
use Rattle.json_append.proofs.writer.Writer.put_plain.Goals as goal

pub loop-c-preserved : goal.loop-c-preserved
loop-c-preserved c =
    (run_byte _ _ _ _ _ _ _ _ c.loop-c.invariant.0 c.in-Some.ensures.cases.0 c.is_plain.ensures c.if-not-is_plain.false c.put_byte.ensures, grind arith)
