use native.Mathlib.Omega.{arith}
use Rattle.definitions.specs.Columns.{token_list}
use Rattle.json_definitions.specs.Writer.{token_text}
use Rattle.model.proofs.Decode.{length_tokens}
use Rattle.json_write.proofs.ElementRules.{elements_next, elements_end}
use Rattle.json_write.proofs.tokens.put_tokens.Goals as goal

pub loop-k-preserved : goal.loop-k-preserved
loop-k-preserved c = let a = c.args in
    elements_next token_text (token_list a.code.now.tokens.now a.code.now.text.now) _ _ _ _ _ c.loop-k.invariant _ c.loop-k-test.true
    (omega (arith, length_tokens a.code.now.tokens.now a.code.now.text.now, c.requires)) _ c.put_next_token.ensures

pub returns : goal.returns
returns c = let a = c.args in
    elements_end token_text (token_list a.code.now.tokens.now a.code.now.text.now) _ _ _ _ _ c.loop-k.invariant c.loop-k-test.false _ c.put_byte.ensures
