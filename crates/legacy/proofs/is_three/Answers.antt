-- `legacy::is_three` meets its contract.
-- Assumes nothing.
use borrow.Author.Rules.{rules}
use Rattle.legacy.proofs.Table.{three_yes}
use Rattle.legacy.proofs.is_three.Goals as goal

pub returns-then-x-a : goal.returns-then-x-a
returns-then-x-a c = three_yes c.args.s.now c.args.a c.args.b c.args.c c.is_two.result (search rules) c.if-x-a.true c.is_two.ensures
