-- `gotos::headers::make_header` meets its contract. The header stored, and the leading test removed.
-- Assumes nothing.
use Rattle.gotos.proofs.HeadedRules.{fewer_yes, fewer_no, made_plain, made_tested}
use Rattle.gotos.proofs.headers.make_header.Goals as goal

pub returns-then-tested : goal.returns-then-tested
returns-then-tested c = let a = c.args in
    (fewer_yes a.n a.tested c.if-tested.true, made_tested a.plan.now a.n a.h a.tested c.requires.0 c.if-tested.true c.head_word.result c.piece.result _ c.head_word.ensures c.piece.ensures.0 c.remove.ensures)

pub returns : goal.returns
returns c = let a = c.args in
    (fewer_no a.n a.tested c.if-tested.false, made_plain a.plan.now a.n a.h a.tested c.requires.0 c.if-tested.false c.head_word-2.result c.head_word-2.ensures)
