-- `families::empty` meets its contract.
-- Assumes nothing.
use mathlib.Core.Path.{sym}
use native.Mathlib.Omega.{arith}
use lib.Seq.{length-take-le}
use Rattle.families.proofs.empty.Goals as goal

pub slice_bounds-zero-end-2 : goal.slice_bounds-zero-end-2
slice_bounds-zero-end-2 c = sym (length-take-le 247 c.args.table.now (omega arith))
