use native.Mathlib.Omega.{arith}
use Rattle.json_lines.specs.InColumns.{tokens_read}
use Rattle.json_lines.proofs.TokenRules.{start, full, no_token, no_sep, closes, goes_on}
use Rattle.json_lines.proofs.tokens.tokens_from.Goals as goal

pub loop-n-init : goal.loop-n-init
loop-n-init c = start _ _ _ _ _ c.requires.0 c.requires.1.0 c.requires.1.1

pub token-requires : goal.token-requires
token-requires c = let h = c.loop-n.invariant.high_x in let k = c.loop-n.invariant.long_tx in omega arith

pub returns-in_err-t : goal.returns-in_err-t
unfolding tokens_read
returns-in_err-t c = rw c.from_residual.ensures (no_token _ _ _ _ _ _ _ _ _ _ c.loop-n.invariant c.in_err-t.ensures.result_after)

pub returns-in_err-separator : goal.returns-in_err-separator
unfolding tokens_read
returns-in_err-separator c =
    rw c.from_residual-in_err-separator.ensures
    (no_sep _ _ _ _ _ _ _ _ _ _ c.loop-n.invariant _ _ _ _ c.in_ok-t.ensures.result_after c.in_err-separator.ensures)

pub returns-in-Close : goal.returns-in-Close
unfolding tokens_read
returns-in-Close c =
    let long = c.loop-n.invariant.long_tk in
    closes _ _ _ _ _ _ _ _ _ _ c.loop-n.invariant _ _ _ _ c.in_ok-t.ensures.result_after _ c.token_word.ensures
    c.in_ok-t.ensures.within c.in_ok-t.ensures.text_unchanged c.token.auto.text (omega arith) _ (rw c.in-Close.is at c.in_ok-separator.ensures)

pub loop-n-preserved : goal.loop-n-preserved
loop-n-preserved c =
    let long = c.loop-n.invariant.long_tk in
    goes_on _ _ _ _ _ _ _ _ _ _ c.loop-n.invariant _ _ _ _ c.in_ok-t.ensures.result_after _ c.token_word.ensures
    c.in_ok-t.ensures.within c.in_ok-t.ensures.text_unchanged c.token.auto.text (omega arith) _ (rw c.in-More.is at c.in_ok-separator.ensures)

pub returns : goal.returns
unfolding tokens_read
returns c = let long = c.loop-n.invariant.long_tk in full _ _ _ _ _ _ _ _ _ _ c.loop-n.invariant (omega arith)
