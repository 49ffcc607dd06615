use Rattle.walks.proofs.Taken.{taken_rules, untaken_found, untaken_end}
use borrow.Author.Rules.{rules}
use Rattle.walks.proofs.reads.lines_take.Goals as goal

pub loop-p-init : goal.loop-p-init
loop-p-init c = search (taken_rules, rules)

pub returns-then-takes_at : goal.returns-then-takes_at
returns-then-takes_at c = untaken_found _ _ _ _ _ _ c.requires _ c.loop-p.invariant c.loop-p-test.true _ c.line_at.ensures _ c.takes_at.ensures c.if-takes_at.true

pub loop-p-preserved : goal.loop-p-preserved
loop-p-preserved c = search (taken_rules, rules)

pub returns : goal.returns
returns c = untaken_end _ _ _ _ _ _ c.requires _ c.loop-p.invariant c.loop-p-test.false
