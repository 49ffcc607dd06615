use native.Mathlib.Omega.{arith}
use Rattle.definitions.specs.Columns.{token_list}
use Rattle.json_definitions.specs.Writer.{token_text}
use Rattle.model.proofs.Decode.{length_tokens}
use Rattle.json_append.proofs.Appends.{wrote_as, wrote_3}
use Rattle.json_write.proofs.ElementRules.{array_none, array_some}
use Rattle.json_write.proofs.tokens.put_token_array.Goals as goal

pub returns-then-end-from : goal.returns-then-end-from
returns-then-end-from c = let a = c.args in
    wrote_as _ _ _ _ (array_none token_text (token_list a.code.now.tokens.now a.code.now.text.now) _ _ c.if-end-from.true) c.put.ensures

pub returns : goal.returns
returns c = let a = c.args in
    let some = array_some token_text (token_list a.code.now.tokens.now a.code.now.text.now) _ _ _ c.if-end-from.false (omega (arith, length_tokens a.code.now.tokens.now a.code.now.text.now, c.requires)) in
    wrote_3 _ _ _ c.put_byte.ensures _ _ c.put_token.ensures _ _ c.put_tokens.ensures _ some
