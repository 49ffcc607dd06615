use Rattle.json_append.proofs.Appends.{wrote_2}
use Rattle.json_append.proofs.StringRules.{letters}
use native.Mathlib.Omega.{arith}
use Rattle.json_append.proofs.writer.Writer.put_character.Goals as goal

pub returns-then-c-lt32 : goal.returns-then-c-lt32
returns-then-c-lt32 c =
    wrote_2 _ _ _ c.put-then-c-lt32.ensures _ _ c.put-then-c-lt32-2.ensures _ (letters _ _ _ c.hex_letter.ensures c.hex_letter-then-c-lt32.ensures (omega arith))
