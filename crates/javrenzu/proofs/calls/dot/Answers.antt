-- `javrenzu::calls::dot` meets its contract.
-- Assumes nothing.
use Rattle.javrenzu.proofs.Rules.{dot_passing, dot_said, dot_refused}
use borrow.Author.Rules.{rules}
use Rattle.javrenzu.proofs.calls.dot.Goals as goal

pub returns-in_err-recover : goal.returns-in_err-recover
returns-in_err-recover c =
    let e = dot_refused _ _ _ _ _ _ _ _ _ c.zeros-numbers.ensures.value c.zeros-marks.ensures.value c.zeros-space.ensures.value _ c.args.out.now c.in_err-recover.ensures.space_after in
    search rules

pub picture-requires-clause-passing : goal.picture-requires-clause-passing
picture-requires-clause-passing c = (dot_passing _ _ _ _ _ _ _ _ _ _ c.in_ok-recover.ensures.space_after, search rules)

pub returns : goal.returns
returns c = dot_said _ _ _ _ _ _ _ _ _ c.zeros-numbers.ensures.value c.zeros-marks.ensures.value c.zeros-space.ensures.value _ _ c.in_ok-recover.ensures.space_after c.picture.ensures
