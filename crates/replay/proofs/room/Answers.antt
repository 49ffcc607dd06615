-- `replay::room` meets its contract.
-- Assumes nothing.
use Rattle.std.proofs.Common.{ℕ, sym}
use lib.ListN.{length-replicate}
use Rattle.replay.proofs.room.Goals as goal

pub returns : goal.returns
returns c = sym (length-replicate {A = ℕ} 524288 0)
