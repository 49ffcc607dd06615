-- `negate::comparison::width` meets its contract. A range of numbers for each.
-- Assumes nothing.
use native.Mathlib.Omega.{arith}
use Rattle.negate.proofs.Scanning.{width_four, width_three, width_none}
use Rattle.negate.proofs.comparison.width.Goals as goal

pub returns-in-0-to-3 : goal.returns-in-0-to-3
returns-in-0-to-3 c = width_four _ (omega arith)

pub returns-in-4-to-5 : goal.returns-in-4-to-5
returns-in-4-to-5 c = width_three _ (omega arith) (omega arith)

pub returns-in_default : goal.returns-in_default
returns-in_default c = width_none _ (omega arith)
