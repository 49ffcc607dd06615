use native.Mathlib.Omega.{arith}
use borrow.Author.Rules.{rules}
use Rattle.negate.proofs.Appends.{tokens_start, tokens_next}
use Rattle.definitions.specs.Columns.{listing}
use Rattle.definitions.specs.Model.{line}
use mathlib.Core.Path.{◌≡◌}
use Rattle.negate.proofs.adding.add_test_tokens.Goals as goal

pub loop-k-init : goal.loop-k-init
loop-k-init c = let a = c.args in
    (search rules, tokens_start (line (listing a.code.now.lines.now a.code.now.tokens.now a.code.now.text.now) a.i) a.m a.o)

pub add_test_token-requires : goal.add_test_token-requires
add_test_token-requires c = c.loop-k-test.true

pub loop-k-preserved : goal.loop-k-preserved
loop-k-preserved c = let a = c.args in
    (search rules, tokens_next (line (listing a.code.now.lines.now a.code.now.tokens.now a.code.now.text.now) a.i) a.m a.o c.loop-k.k c.loop-k.invariant.1 c.add_test_token.ensures)

pub returns : goal.returns
returns c = let a = c.args in
    let z : c.loop-k.k ≡ a.m = omega arith in
    rw z at c.loop-k.invariant.1
