-- `json_strings::strings::string` meets its contract.
-- Assumes nothing.
use native.Mathlib.Omega.{arith}
use Rattle.json_strings.proofs.StringRules.{string_no, string_go}
use Rattle.json_strings.proofs.strings.string.Goals as goal

pub returns-in_err-s-clause-result_after : goal.returns-in_err-s-clause-result_after
returns-in_err-s-clause-result_after c = grind (arith, string_no)

pub returns-clause-result_after : goal.returns-clause-result_after
returns-clause-result_after c = grind (arith, string_go)
