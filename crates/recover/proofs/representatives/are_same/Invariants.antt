-- `recover::representatives::are_same` meets its contract. Those before place k have the representative of the first. Assumes nothing.
use mathlib.Core.Path.{◌≡◌}
use lib.ListN.{drop}
use Rattle.definitions.specs.Lists.{all}
use Rattle.recover.specs.Numbers.{alike}
use Rattle.recover.proofs.representatives.are_same.Given as goal

abbrev pub invariant-loop-k : goal.invariant-loop-k
invariant-loop-k l = all (alike l.rep l.ds) l.ds ≡ all (alike l.rep l.ds) (drop l.k l.ds)
