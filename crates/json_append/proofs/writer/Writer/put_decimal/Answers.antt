use mathlib.Core.Path.{◌∙◌}
use native.Mathlib.Omega.{arith}
use lib.Seq.{take_all}
use Rattle.json_append.proofs.ValueRules.{decimal_written}
use Rattle.json_append.proofs.writer.Writer.put_decimal.Goals as goal

pub returns : goal.returns
returns c =
    decimal_written _ _ _ _ (omega arith) (take_all _ _ c.loop-digit-test.false ∙ c.as_bytes-text.ensures.value ∙ c.format.ensures.text) c.loop-digit.invariant
