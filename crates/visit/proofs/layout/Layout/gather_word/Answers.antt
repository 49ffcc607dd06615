use native.Mathlib.Omega.{arith}
use Rattle.visit.proofs.StepLaws.{gather_start, gather_next, gather_end, preds_row}
use borrow.Author.Rules.{rules}
use Rattle.visit.proofs.layout.Layout.gather_word.Goals as goal

pub row_span-x-requires : goal.row_span-x-requires
row_span-x-requires c = (search rules, search rules, omega arith, search (preds_row, rules))

pub loop-q-init : goal.loop-q-init
loop-q-init c = gather_start _ _ _ _ _ _ _ c.preds-u.ensures.0 c.requires.1 c.requires.2 _ c.row_span-x.ensures

pub loop-q-preserved : goal.loop-q-preserved
loop-q-preserved c = gather_next _ _ _ _ _ _ _ c.preds-u.ensures.0 c.requires.1 c.requires.2 _ _ _ _ _ _ c.loop-q.invariant c.loop-q-test.true c.row-v.ensures.0 c.base.ensures c.find_bit-q.ensures

pub returns : goal.returns
returns c = gather_end _ _ _ _ _ _ _ c.preds-u.ensures.0 c.requires.1 c.requires.2 _ _ _ c.row_span-x.ensures c.loop-q.invariant c.loop-q-test.false
