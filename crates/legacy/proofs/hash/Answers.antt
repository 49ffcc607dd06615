-- `legacy::hash` meets its contract.
-- Assumes nothing.
use native.Mathlib.Nat.{mod-lt}
use native.Mathlib.Omega.{arith}
use Rattle.legacy.specs.Table.{hash}
use Rattle.legacy.proofs.hash.Goals as goal

pub returns : goal.returns
unfolding hash
returns c = (rw (← c.byte.ensures.0, ← c.byte-2.ensures.0, ← c.byte-3.ensures.0), mod-lt _ (omega arith))
