-- `json_lines::tokens::token` meets its contract.
-- Assumes nothing.
use Rattle.std.proofs.Common.{◌-◌, length}
use native.Mathlib.Omega.{arith}
use Rattle.json_lines.specs.Answers.{token_rest}
use Rattle.json_lines.proofs.MemberRules.{members, token_go, token_no, kind_small}
use Rattle.json_lines.proofs.tokens.token.Goals as goal

pub returns-in_err-s-clause-result_after : goal.returns-in_err-s-clause-result_after
returns-in_err-s-clause-result_after c = grind (arith, token_no)

pub returns-in_err-end-clause-result_after : goal.returns-in_err-end-clause-result_after
returns-in_err-end-clause-result_after c =
    let h = token_go c.args.s.now c.in_ok-s.s.now (length c.args.text.now - c.args.from) c.in_ok-s.ensures in
    grind (arith, members)

pub returns-in_err-kind-clause-result_after : goal.returns-in_err-kind-clause-result_after
unfolding token_rest
returns-in_err-kind-clause-result_after c =
    let h = token_go c.args.s.now c.in_ok-s.s.now (length c.args.text.now - c.args.from) c.in_ok-s.ensures in
    grind (arith, members)

pub returns-clause-result_after : goal.returns-clause-result_after
unfolding token_rest
returns-clause-result_after c =
    let h = token_go c.args.s.now c.in_ok-s.s.now (length c.args.text.now - c.args.from) c.in_ok-s.ensures in
    grind (arith, members)

pub returns-clause-within : goal.returns-clause-within
returns-clause-within c = (c.in_ok-end.ensures.within.0, (c.in_ok-end.ensures.within.1, kind_small _ _ _ c.in_ok-kind.ensures))
