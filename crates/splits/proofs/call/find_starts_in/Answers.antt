-- `splits::call::find_starts_in` meets its contract. Assumes nothing.
use native.Mathlib.Omega.{arith}
use Rattle.splits.proofs.CallRules.{finds_by, defs_by}
use Rattle.splits.proofs.call.find_starts_in.Goals as goal

pub starts-requires : goal.starts-requires
starts-requires c = (
  (defs_by _ _ _ _ _ _ c.families-count.ensures, c.crossings.ensures),
  omega (arith, c.families-count.auto.defs, c.requires.lines_nonzero.3),
)

pub returns : goal.returns
returns c = record { finds = finds_by _ _ _ _ _ _ c.families-count.ensures; starts = c.starts.ensures }
