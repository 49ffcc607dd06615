use mathlib.Core.Path.{refl}
use Rattle.negate.proofs.TestTokens.{test_short}
use Rattle.model.proofs.Decode.{token_short}
use native.Mathlib.Omega.{arith}
use borrow.Author.Rules.{rules}
use Rattle.definitions.specs.Columns.{listing}
use Rattle.definitions.specs.Model.{line}
use Rattle.negate.proofs.Scanning.{scan_next, scan_end}
use Rattle.negate.proofs.comparison.scan.Goals as goal

pub loop-k-init : goal.loop-k-init
loop-k-init c = (search rules, refl, omega arith)

pub scan_token-requires : goal.scan_token-requires
scan_token-requires c = let a = c.args in
    let n = token_short a.code.now.lines.now a.code.now.tokens.now a.code.now.text.now a.i a.code.now.tokens_fit in
    omega (arith, test_short (line (listing a.code.now.lines.now a.code.now.tokens.now a.code.now.text.now) a.i) a.m n c.loop-k.k)

pub loop-k-preserved : goal.loop-k-preserved
loop-k-preserved c = let a = c.args in
    let n = token_short a.code.now.lines.now a.code.now.tokens.now a.code.now.text.now a.i a.code.now.tokens_fit in (
      search rules,
      scan_next _ _ _ _ c.loop-k.invariant.1 _ c.scan_token.ensures.0 c.loop-k-test.true,
      omega (arith, test_short (line (listing a.code.now.lines.now a.code.now.tokens.now a.code.now.text.now) a.i) a.m n c.loop-k.k, c.scan_token.ensures.1),
    )

pub returns : goal.returns
returns c = scan_end _ _ _ _ c.loop-k.invariant.1 c.loop-k-test.false
