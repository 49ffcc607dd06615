-- `pseudo_ssa::numbered` meets its contract. Assumes nothing.
use native.Mathlib.Omega.{arith}
use lib.ListN.{length, length-take}
use Rattle.bits.specs.Edges.{row_words}
use Rattle.model.proofs.Ands.{both}
use Rattle.pseudo_ssa.proofs.Written.{part_length, numbered_done, numbered_over}
use borrow.Author.Rules.{rules}
use Rattle.pseudo_ssa.proofs.numbered.Goals as goal

pub slice_bounds-recover-end-2 : goal.slice_bounds-recover-end-2
slice_bounds-recover-end-2 c = rw length-take (omega (arith, c.requires.asked.numbers_room))

pub slice_bounds-recover-end-4 : goal.slice_bounds-recover-end-4
slice_bounds-recover-end-4 c = rw length-take (omega (arith, c.requires.asked.marks_room))

pub recover-requires : goal.recover-requires
recover-requires c = let a = c.args in
    let R = c.requires in
    let A = R.asked in
    let t = length a.code.now.tokens.now in record { in_bounds = (R.two, A.lines, A.tokens, (both _ _ (both _ _ A.formed).0).0); lines_in_bounds = (A.space_room, part_length t a.numbers.now A.numbers_room, part_length t a.marks.now A.marks_room, R.drawn) }

pub returns-in-Some : goal.returns-in-Some
returns-in-Some c = let a = c.args in
    let R = c.recover in
    let Z = c.zero in
    numbered_done a.code.now.lines.now a.code.now.tokens.now a.code.now.text.now a.numbers.now a.marks.now a.space.now (row_words (length a.code.now.lines.now)) a.budget c.requires
    R.new.numbers R.new.marks R.new.space _ _ _ R.auto.numbers R.auto.marks R.auto.space Z.ensures.space_after R.result _ R.ensures (search rules) Z.ensures.numbers_after Z.ensures.marks_after

pub returns-in-None : goal.returns-in-None
returns-in-None c = let a = c.args in
    let R = c.recover in
    let Z = c.zero-in-None in
    numbered_over a.code.now.lines.now a.code.now.tokens.now a.code.now.text.now a.numbers.now a.marks.now a.space.now (row_words (length a.code.now.lines.now)) a.budget c.requires
    R.new.numbers R.new.marks R.new.space _ _ _ R.auto.numbers R.auto.marks R.auto.space Z.ensures.space_after R.result R.ensures c.in-None.is Z.ensures.numbers_after Z.ensures.marks_after
