-- `negate::comparison::scan_token` meets its contract. The kind decides.
-- Assumes nothing.
use Rattle.std.specs.Prelude.{Some}
use mathlib.Core.Path.{◌≡◌}
use Prim.Native.Nat.{ℕ}
use native.Mathlib.Omega.{arith}
use borrow.Author.Rules.{rules}
use Rattle.model.specs.declared.kind.Kind.TheVariants.{Keyword, Punct}
use Rattle.model.specs.Kinds.{kind_of}
use Rattle.negate.specs.Tests.{test_token}
use Rattle.negate.proofs.Scanning.{tokens}
use Rattle.negate.proofs.comparison.scan_token.Goals as goal

-- The number of a kind that was found.
keyword_is : (n : ℕ) → Some Keyword ≡ kind_of n → n ≡ 3
keyword_is n e = grind arith

punct_is : (n : ℕ) → Some Punct ≡ kind_of n → n ≡ 6
punct_is n e = grind arith

pub returns-in-Some-Keyword : goal.returns-in-Some-Keyword
unfolding test_token
returns-in-Some-Keyword c = let e : c.test_kind.result ≡ 3 = keyword_is c.test_kind.result (rw c.in-Some-Keyword.field-0-is at c.in-Some-Keyword.ensures) in search (e, tokens, rules)

pub returns-in-Some-Punct : goal.returns-in-Some-Punct
unfolding test_token
returns-in-Some-Punct c = let e : c.test_kind.result ≡ 6 = punct_is c.test_kind.result (rw c.in-Some-Punct.field-0-is at c.in-Some-Punct.ensures) in search (e, tokens, rules)
