use Rattle.text.proofs.Fills.{same_next}
use Rattle.text.proofs.zero.Goals as goal

pub loop-word-preserved : goal.loop-word-preserved
loop-word-preserved g c = rw c.ZERO.ensures (same_next g.T.Unsigned.ZERO c.loop-word.word-index _ c.loop-word.word-items c.loop-word.invariant c.loop-word-test.true)
