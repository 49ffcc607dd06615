-- `families::link` meets its contract. By its stores.
-- Assumes nothing.
use native.Mathlib.Omega.{arith}
use lib.ListN.{length-set}
use Rattle.families.proofs.link.Goals as goal

pub bounds-table-h-2 : goal.bounds-table-h-2
bounds-table-h-2 c = simp length-set (omega arith)
