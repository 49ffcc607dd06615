-- `replay::rows::replay` is safe and ends: less is left behind each row.
-- Assumes nothing.
use lib.ListN.{length}
use Rattle.replay.proofs.rows.replay.Given as goal

abbrev pub decreases-loop-rest : goal.decreases-loop-rest
decreases-loop-rest l = length l.rest
