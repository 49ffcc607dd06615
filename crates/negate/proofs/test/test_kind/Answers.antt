-- `negate::test::test_kind` meets its contract. It is the kind of the next token of the line.
-- Assumes nothing.
use Rattle.negate.proofs.TestTokens.{kind_short}
use Prim.Native.Nat.{◌+◌}
use native.Mathlib.Omega.{arith}
use Rattle.negate.specs.Tests.{test_token}
use borrow.Author.Rules.{rules}
use Rattle.negate.proofs.test.test_kind.Goals as goal

pub overflow_add-k : goal.overflow_add-k
unfolding test_token
overflow_add-k c = search rules

pub kind-requires : goal.kind-requires
unfolding test_token
kind-requires c = search rules

pub returns : goal.returns
unfolding test_token
returns c = let a = c.args in
    (search rules, omega (arith, c.kind.ensures, kind_short a.code.now.lines.now a.code.now.tokens.now a.code.now.text.now a.i (a.k + 1)))
