use lib.ListN.{length-set}
use Rattle.visit.proofs.StepLaws.{row_ready, row_next}
use Rattle.visit.proofs.LayoutLaws.{room_by}
use Rattle.visit.proofs.layout.Layout.coming_row.Goals as goal

pub coming_word-y-requires : goal.coming_word-y-requires
coming_word-y-requires c = row_ready _ _ _ _ _ _ _ (room_by c.args.self _ c.requires.0) c.loop-k.invariant.1 c.loop-k-test.true c.loop-k.invariant.0 c.requires.1 c.requires.2

pub loop-k-preserved : goal.loop-k-preserved
loop-k-preserved c = (simp length-set c.loop-k.invariant.0, row_next _ _ _ c.args.i _ _ _ (room_by c.args.self _ c.requires.0) c.loop-k.invariant.1 c.loop-k-test.true _ _ c.making-t.ensures c.loop-k.invariant.0 c.coming_word-y.ensures)
