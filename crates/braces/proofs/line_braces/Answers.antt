use borrow.Author.Rules.{rules}
use native.Mathlib.Omega.{arith}
use Rattle.braces.proofs.Counts.{counts, place_short}
use Rattle.braces.proofs.line_braces.Goals as goal

pub in_token-b-requires : goal.in_token-b-requires
in_token-b-requires c = let a = c.args in
    let l = c.loop-k in
    let m = place_short a.code.now.lines.now a.code.now.tokens.now a.code.now.text.now a.i _ _ c.line_start-s.ensures c.line_end-e.ensures l.k l.invariant.0 c.loop-k-test.true (a.code.now.lines_fit a.i) a.code.now.tokens_fit in
    omega arith

pub loop-k-preserved : goal.loop-k-preserved
loop-k-preserved c = let a = c.args in
    let l = c.loop-k in
    let m = place_short a.code.now.lines.now a.code.now.tokens.now a.code.now.text.now a.i _ _ c.line_start-s.ensures c.line_end-e.ensures l.k l.invariant.0 c.loop-k-test.true (a.code.now.lines_fit a.i) a.code.now.tokens_fit in
    (omega arith, search (counts, rules), omega arith)
