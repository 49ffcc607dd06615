-- `json_scan::skip_white_space` meets its contract. What is left of the white space of `rest` is left of that of s.
-- Assumes nothing.
use Rattle.json_definitions.specs.Parser.{skip_white_space}
use mathlib.Core.Path.{◌≡◌}
use lib.ListN.{length}
use Rattle.json_scan.proofs.skip_white_space.Given as goal

abbrev pub invariant-loop-c : goal.invariant-loop-c
invariant-loop-c l = skip_white_space l.rest ≡ skip_white_space l.s

abbrev pub decreases-loop-c : goal.decreases-loop-c
decreases-loop-c l = length l.rest
