-- `pop::popped_length` meets its contract. From the end, continuation bytes and the byte before them.
-- Assumes nothing.
use mathlib.Core.Path.{◌≡◌}
use lib.ListN.{take}
use Rattle.definitions.specs.ToFor.{pop}
use Rattle.pop.proofs.popped_length.Given as goal

abbrev pub invariant-loop-n : goal.invariant-loop-n
invariant-loop-n l = pop l.s ≡ pop (take l.n l.s)
