-- `splits::call::split_numbers` meets its contract. Assumes nothing.
use native.Mathlib.Omega.{arith}
use lib.ListN.{length, length-take}
use Rattle.splits.proofs.CallRules.{filled_by}
use Rattle.splits.proofs.call.split_numbers.Goals as goal

pub slice_bounds-write_all-end-2 : goal.slice_bounds-write_all-end-2
slice_bounds-write_all-end-2 c = let a = c.args in
    omega (arith, length-take (length a.code.now.tokens.now) a.numbers.now, c.requires.2)

pub slice_bounds-write_all-end-4 : goal.slice_bounds-write_all-end-4
slice_bounds-write_all-end-4 c = let a = c.args in
    omega (arith, length-take (length a.code.now.tokens.now) a.marks.now, c.requires.3)

pub write_all-requires : goal.write_all-requires
write_all-requires c = let a = c.args in
    let p = c.requires in record { lines_len_bound = p.0; tokens_value = (p.1, omega (arith, length-take (length a.code.now.tokens.now) a.numbers.now, p.2), omega (arith, length-take (length a.code.now.tokens.now) a.marks.now, p.3)) }

pub returns : goal.returns
returns c = let a = c.args in
    let p = c.requires in
    let w = c.write_all in record { numbers_after = filled_by _ _ a.numbers.now _ (length a.code.now.tokens.now) w.ensures.numbers_after (omega (arith, w.auto.numbers, length-take (length a.code.now.tokens.now) a.numbers.now, p.2)) c.zero.ensures; marks_after = filled_by _ _ a.marks.now _ (length a.code.now.tokens.now) w.ensures.marks_after (omega (arith, w.auto.marks, length-take (length a.code.now.tokens.now) a.marks.now, p.3)) c.zero-2.ensures }
