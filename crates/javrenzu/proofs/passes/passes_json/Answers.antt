-- `javrenzu::passes::passes_json` meets its contract.
-- Assumes nothing.
use borrow.Author.Rules.{rules}
use Rattle.definitions.specs.Answers.{loops}
use Rattle.javrenzu.specs.Command.{pass_answer}
use Rattle.javrenzu.proofs.Rules.{pass_left, pass_refused}
use Rattle.javrenzu.proofs.passes.passes_json.Goals as goal

pub returns-in_err-n : goal.returns-in_err-n
returns-in_err-n c =
    let e = pass_refused (pass_answer loops c.args.out.now) _ _ _ c.new-room.ensures _ _ _ _ _ c.args.out.now c.in_err-n.ensures in
    search rules

pub returns : goal.returns
returns c =
    let left = c.first.ensures in
    pass_left (pass_answer loops c.args.out.now) _ _ _ c.new-room.ensures _ _ _ _ _ _ _ _ _ _ c.in_ok-n.ensures left.lines left.addresses left.tokens left.text c.pass_json.ensures
