-- `javrenzu::passes::json` meets its contract.
-- Assumes nothing.
use borrow.Author.Rules.{rules}
use Rattle.javrenzu.proofs.Rules.{json_said, json_refused}
use Rattle.javrenzu.proofs.passes.json.Goals as goal

pub returns-in_err-n : goal.returns-in_err-n
returns-in_err-n c = let e = json_refused _ _ _ _ c.in_err-n.ensures in search rules

pub returns : goal.returns
returns c = json_said _ _ _ _ c.in_ok-n.ensures
