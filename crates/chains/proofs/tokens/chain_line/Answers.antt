-- `chains::tokens::chain_line` meets its contract. Assumes nothing.
use mathlib.Core.Path.{refl}
use native.Mathlib.Omega.{arith}
use Rattle.chains.proofs.TokenRules.{line_from, line_on, line_to, line_rises, chained_below}
use Rattle.chains.proofs.tokens.chain_line.Goals as goal

pub loop-p-init : goal.loop-p-init
loop-p-init c = let a = c.args in
    let p = c.requires in
    let code = a.lookup.now.code in (
      refl,
      refl,
      line_rises code.lines.now code.tokens.now code.text.now a.lookup.now.count a.i p.0 p.1 a.numbers.now a.first.now _ _ c.line_start-from.ensures c.line_end-to.ensures,
      line_from _ _ _ _ _ p.0 p.1 _ _ _ c.line_end-to.ensures p.2,
    )

pub chain_token-requires : goal.chain_token-requires
chain_token-requires c = let a = c.args in
    let p = c.requires in
    let l = c.loop-p in
    let code = a.lookup.now.code in
    rw (l.invariant.0, l.invariant.1) (
      p.0,
      p.1,
      omega (arith, c.loop-p-test.true, c.line_end-to.ensures),
      line_on code.lines.now code.tokens.now code.text.now a.lookup.now.count a.i p.0 p.1 l.numbers l.first _ l.p c.line_start-from.ensures c.loop-p-test.true (omega (arith, c.line_end-to.ensures)),
      chained_below _ _ _ _ _ _ _ _ c.loop-p-test.true l.invariant.3,
    )

pub returns-clause-chained : goal.returns-clause-chained
returns-clause-chained c = let p = c.requires in
    let l = c.loop-p in
    line_to _ _ _ _ _ p.0 p.1 _ _ _ _ c.line_start-from.ensures l.invariant.2 c.loop-p-test.false l.invariant.3
