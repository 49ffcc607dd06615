-- `json_strings::points::code_point` meets its contract.
-- Assumes nothing.
use Rattle.std.proofs.Common.{rules}
use Rattle.json_strings.proofs.PointRules.{point_loaded}
use Rattle.json_strings.proofs.points.code_point.Goals as goal

pub returns : goal.returns
returns c = search (point_loaded, rules)
