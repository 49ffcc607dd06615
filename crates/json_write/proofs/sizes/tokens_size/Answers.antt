use borrow.Author.Rules.{rules}
use native.Mathlib.Omega.{arith}
use Rattle.model.proofs.Decode.{length_tokens}
use Rattle.json_write.specs.Sizes.{token_size}
use Rattle.json_append.proofs.Sums.{counted_start, counted_end}
use Rattle.json_write.proofs.SizeRules.{tokens_next}
use Rattle.json_write.proofs.sizes.tokens_size.Goals as goal

pub loop-k-init : goal.loop-k-init
loop-k-init c = counted_start token_size 24 _

pub loop-k-preserved : goal.loop-k-preserved
loop-k-preserved c = search (tokens_next, rules)

pub returns : goal.returns
returns c = let a = c.args in
    let m = length_tokens a.code.now.tokens.now a.code.now.text.now in
    record { is = counted_end token_size 24 _ _ _ c.loop-k.invariant (omega arith); most = omega arith }
