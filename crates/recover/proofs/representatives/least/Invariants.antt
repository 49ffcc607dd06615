-- `recover::representatives::least` meets its contract. The least of the first k.
-- Assumes nothing.
use lib.ListN.{take}
use Rattle.recover.specs.Numbers.{Least}
use Rattle.recover.proofs.representatives.least.Given as goal

abbrev pub invariant-loop-k : goal.invariant-loop-k
invariant-loop-k l = Least l.rep (take l.k l.ds) l.m
