-- `goto_for::conditions::test_names` meets its contract. The answer is what is left to look for from token k on.
-- Assumes nothing.
use mathlib.Core.Path.{◌≡◌}
use Rattle.definitions.specs.Lists.{any}
use Rattle.definitions.specs.Model.{line}
use Rattle.definitions.specs.Columns.{listing}
use Rattle.family.specs.Register.{family_of, names_family}
use Rattle.negate.specs.Tests.{test_from, test_tokens}
use Rattle.goto_for.proofs.conditions.test_names.Given as goal

abbrev pub invariant-loop-k : goal.invariant-loop-k
invariant-loop-k l = any (names_family (family_of l.s l.r)) (test_tokens (line (listing l.code.lines.now l.code.tokens.now l.code.text.now) l.i) l.m) ≡ any (names_family (family_of l.s l.r)) (test_from (line (listing l.code.lines.now l.code.tokens.now l.code.text.now) l.i) l.m l.k)
