-- `emit::tests::add_test` meets its contract. By the condition of the header.
-- Assumes nothing.
use Rattle.definitions.specs.Columns.{listing}
use Rattle.append.proofs.Appends.{adds_as}
use Rattle.plan.proofs.Numbers.{read_guard, read_always, read_leading}
use Rattle.emit.proofs.Conditions.{test_one, test_leading, test_guard}
use Rattle.emit.proofs.tests.add_test.Goals as goal

pub returns-in-Guard : goal.returns-in-Guard
returns-in-Guard c = let g = c.args in let C = listing g.code.now.lines.now g.code.now.tokens.now g.code.now.text.now in adds_as (test_guard C _ _ _ (read_guard g.w c.in-Guard.ensures) _ c.source.ensures) c.add_condition.ensures

pub returns-in-Always : goal.returns-in-Always
returns-in-Always c = let g = c.args in let C = listing g.code.now.lines.now g.code.now.tokens.now g.code.now.text.now in adds_as (test_one C _ _ _ (read_always g.w c.in-Always.ensures)) c.add.ensures

pub add_leading-requires : goal.add_leading-requires
add_leading-requires c = c.requires

pub returns-in-Leading : goal.returns-in-Leading
returns-in-Leading c = let g = c.args in let C = listing g.code.now.lines.now g.code.now.tokens.now g.code.now.text.now in adds_as (test_leading C _ _ _ (read_leading g.w c.in-Leading.ensures) _ c.test.ensures.0) c.add_leading.ensures
