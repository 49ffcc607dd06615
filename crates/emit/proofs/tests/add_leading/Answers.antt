-- `emit::tests::add_leading` meets its contract. By what the piece is.
-- Assumes nothing.
use Rattle.definitions.specs.Columns.{listing}
use Rattle.append.proofs.Appends.{adds_as}
use Rattle.emit.proofs.Conditions.{leading_one, leading_is}
use Rattle.emit.proofs.tests.add_leading.Goals as goal

pub returns-in_default : goal.returns-in_default
returns-in_default c = let g = c.args in let C = listing g.code.now.lines.now g.code.now.tokens.now g.code.now.text.now in adds_as (leading_one C g.p _ c.leading_test.ensures c.in_default.is) c.add.ensures

pub returns : goal.returns
returns c = let g = c.args in let C = listing g.code.now.lines.now g.code.now.tokens.now g.code.now.text.now in adds_as (leading_is C g.p _ c.leading_test.ensures _ c.in-Some.is) c.add_negated.ensures
