-- `names::hashed` meets its contract. The number so far, gone on with what is left, is the whole.
-- Assumes nothing.
use Rattle.std.proofs.Common.{◌≡◌, ◌<◌, length}
use Rattle.names.specs.Hash.{hashed}
use Rattle.names.proofs.hashed.Given as goal

abbrev pub invariant-loop-rest : goal.invariant-loop-rest
invariant-loop-rest l = (l.h < 34359738368) × (hashed l.f l.h l.rest ≡ hashed l.f 1 l.s)

abbrev pub decreases-loop-rest : goal.decreases-loop-rest
decreases-loop-rest l = length l.rest
