use Rattle.bits.proofs.RowLaws.{none_next, found}
use mathlib.Core.Path.{refl}
use borrow.Author.Rules.{rules}
use Rattle.bits.proofs.find_bit.Goals as goal

pub returns-then-x-ne0 : goal.returns-then-x-ne0
returns-then-x-ne0 c =
    let i = c.loop-p.invariant in
    found c.args.s.now c.args.a c.args.e c.loop-p.p _ refl i.2 i.0 c.loop-p-test.true c.if-x-ne0.true (search rules) c.min.result c.min.ensures

pub loop-p-preserved : goal.loop-p-preserved
loop-p-preserved c = search (none_next, rules)
