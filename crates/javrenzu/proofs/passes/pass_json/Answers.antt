-- `javrenzu::passes::pass_json` meets its contract.
-- Assumes nothing.
use borrow.Author.Rules.{rules}
use Rattle.javrenzu.specs.Command.{json_answer}
use Rattle.javrenzu.proofs.Rules.{pass_left, pass_refused}
use Rattle.javrenzu.proofs.passes.pass_json.Goals as goal

pub returns-in_err-n : goal.returns-in_err-n
returns-in_err-n g c =
    let e = pass_refused (json_answer c.args.out.now) _ _ _ c.new-room.ensures _ _ _ _ _ c.args.out.now c.in_err-n.ensures in
    search rules

pub returns : goal.returns
returns g c =
    let left = c.first.ensures in
    pass_left (json_answer c.args.out.now) _ _ _ c.new-room.ensures _ _ _ _ _ _ _ _ _ _ c.in_ok-n.ensures left.lines left.addresses left.tokens left.text c.json.ensures
