-- `pseudo_ssa::answered` meets its contract. Assumes nothing.
use mathlib.Core.Path.{refl, ◌∙◌}
use borrow.Author.Rules.{rules}
use lib.ListN.{length}
use Rattle.bits.proofs.EdgeLaws.{matrices_room}
use Rattle.pseudo_ssa.proofs.Written.{answered_7, answered_flow, ready, space_swapped}
use Rattle.pseudo_ssa.proofs.answered.Goals as goal

pub returns-then-too_short : goal.returns-then-too_short
returns-then-too_short c = let a = c.args in
    let Z = c.zero in
    answered_7 a.code.now.lines.now a.code.now.tokens.now a.code.now.text.now a.numbers.now a.marks.now a.space.now a.space.now _ _ _ a.budget refl Z.ensures.numbers_after Z.ensures.marks_after Z.ensures.space_after (search rules)

pub flow_graph-requires : goal.flow_graph-requires
flow_graph-requires c = let a = c.args in
    let A = c.requires in
    (A.lines, matrices_room (length a.code.now.lines.now) a.space.now A.lines A.space_room)

pub returns-in-Err : goal.returns-in-Err
returns-in-Err c = let a = c.args in
    let Z = c.zero-in-Err in
    let F = c.flow_graph in
    answered_flow a.code.now.lines.now a.code.now.tokens.now a.code.now.text.now a.numbers.now a.marks.now a.space.now F.new.space _ _ _ a.budget F.auto.space Z.ensures.numbers_after Z.ensures.marks_after Z.ensures.space_after _ (search rules) c.in-Err.ensures.result_value

pub numbered-requires : goal.numbered-requires
numbered-requires c = let a = c.args in
    let F = c.flow_graph in
    ready a.code.now.lines.now a.code.now.tokens.now a.code.now.text.now a.numbers.now a.marks.now a.space.now F.new.space _ c.requires F.auto.space (search rules) refl c.in_default.ensures.result_value (c.in_default.ensures.fact refl)

pub returns : goal.returns
returns c = let a = c.args in
    let F = c.flow_graph in
    c.numbered.ensures ∙ space_swapped _ a.numbers.now a.marks.now a.space.now F.new.space F.auto.space
