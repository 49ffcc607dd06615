-- `negate::adding::add_test_token` meets its contract. By whether the comparison stands in it.
-- Assumes nothing.
use Rattle.negate.proofs.Appends.{adds_whole, adds_here, adds_other}
use Rattle.definitions.specs.Columns.{listing}
use Rattle.definitions.specs.Model.{line}
use Rattle.negate.proofs.adding.add_test_token.Goals as goal

pub returns-in_default : goal.returns-in_default
returns-in_default c = let a = c.args in
    adds_whole (line (listing a.code.now.lines.now a.code.now.tokens.now a.code.now.text.now) a.i) a.m a.k a.o c.test_text-s.result.now c.test_text-s.ensures c.test_kind-kind.result c.test_kind-kind.ensures.0 c.in_default.is c.add_unless_empty.ensures

pub returns-then-k-f : goal.returns-then-k-f
returns-then-k-f c = let a = c.args in
    adds_here (line (listing a.code.now.lines.now a.code.now.tokens.now a.code.now.text.now) a.i) a.m a.k a.o c.test_text-s.result.now c.test_text-s.ensures c.test_kind-kind.result c.test_kind-kind.ensures.0 _ c.in-Some.is c.if-k-f.true c.add_negated_token.ensures

pub returns-else-k-f : goal.returns-else-k-f
returns-else-k-f c = let a = c.args in
    adds_other (line (listing a.code.now.lines.now a.code.now.tokens.now a.code.now.text.now) a.i) a.m a.k a.o c.test_text-s.result.now c.test_text-s.ensures c.test_kind-kind.result c.test_kind-kind.ensures.0 _ c.in-Some.is c.if-k-f.false c.add_unless_empty-else-k-f.ensures
