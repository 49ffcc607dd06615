-- `json_scan::literal` meets its contract. The rest of w decides.
-- Assumes nothing.
use Rattle.json_definitions.specs.Parser.{literal}
use mathlib.Core.Path.{◌≡◌}
use lib.ListN.{drop}
use Rattle.json_scan.proofs.literal.Given as goal

abbrev pub invariant-loop-c : goal.invariant-loop-c
invariant-loop-c l = literal (drop l.c-index l.w) l.rest ≡ literal l.w l.s
