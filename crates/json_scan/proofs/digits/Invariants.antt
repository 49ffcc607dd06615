-- `json_scan::digits` meets its contract. The digits of `rest`, behind v, give the number.
-- Assumes nothing.
use Rattle.json_definitions.specs.Reader.{at_most, digits}
use mathlib.Core.Path.{◌≡◌}
use lib.ListN.{length}
use Rattle.json_scan.proofs.digits.Given as goal

abbrev pub invariant-loop-c : goal.invariant-loop-c
invariant-loop-c l = at_most l.most (digits l.v l.rest) ≡ at_most l.most (digits l.first l.s)

abbrev pub decreases-loop-c : goal.decreases-loop-c
decreases-loop-c l = length l.rest
