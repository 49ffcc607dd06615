-- `choose::choose_within` meets its contract. Assumes nothing.
use borrow.Author.Rules.{rules}
use Rattle.std.specs.Prelude.{Ok, Err}
use Rattle.questions.specs.Refusals.{at_most}
use Rattle.choose.proofs.Choosing.{early, late, chosen_webs, chosen_early, chosen_splits, equation_of, passed}
use Rattle.choose.proofs.choose_within.Goals as goal

pub returns-then-early : goal.returns-then-early
returns-then-early c = let a = c.args in
    let few = c.requires in
    let R = c.recover_within in
    let ns = R.new.numbers in
    let ms = R.new.marks in
    let ws = R.new.space in
    chosen_early (at_most a.most) a.code.now.lines.now a.code.now.tokens.now a.code.now.text.now a.numbers.now a.marks.now a.space.now c.in-Err.refusal ns ms ws (early (at_most a.most) a.code.now.lines.now a.code.now.tokens.now a.code.now.text.now a.numbers.now a.marks.now a.space.now c.in-Err.refusal ns ms ws (equation_of (at_most a.most) few.0 a.code.now.lines.now a.code.now.tokens.now a.code.now.text.now a.numbers.now a.marks.now a.space.now ns ms ws (Err c.in-Err.refusal) c.in-Err.ensures) (search rules))

pub split_numbers-requires : goal.split_numbers-requires
split_numbers-requires c = let a = c.args in
    let few = c.requires in
    let R = c.recover_within in
    let ns = R.new.numbers in
    let ms = R.new.marks in
    let ws = R.new.space in
    passed (at_most a.most) a.code.now.lines.now a.code.now.tokens.now a.code.now.text.now a.numbers.now a.marks.now a.space.now _ ns ms ws (late (at_most a.most) a.code.now.lines.now a.code.now.tokens.now a.code.now.text.now a.numbers.now a.marks.now a.space.now c.in-Err.refusal ns ms ws (equation_of (at_most a.most) few.0 a.code.now.lines.now a.code.now.tokens.now a.code.now.text.now a.numbers.now a.marks.now a.space.now ns ms ws (Err c.in-Err.refusal) c.in-Err.ensures) (search rules)) few.0 few.1

pub returns-in-Ok : goal.returns-in-Ok
returns-in-Ok c = let a = c.args in
    let few = c.requires in
    let R = c.recover_within in
    let ns = R.new.numbers in
    let ms = R.new.marks in
    let ws = R.new.space in
    chosen_webs (at_most a.most) a.code.now.lines.now a.code.now.tokens.now a.code.now.text.now a.numbers.now a.marks.now a.space.now _ ns ms ws (equation_of (at_most a.most) few.0 a.code.now.lines.now a.code.now.tokens.now a.code.now.text.now a.numbers.now a.marks.now a.space.now ns ms ws (Ok c.in-Ok.sweeps) c.in-Ok.ensures)

pub returns-else-early : goal.returns-else-early
returns-else-early c = let a = c.args in
    let few = c.requires in
    let R = c.recover_within in
    let ns = R.new.numbers in
    let ms = R.new.marks in
    let ws = R.new.space in
    let S = c.split_numbers in
    chosen_splits (at_most a.most) a.code.now.lines.now a.code.now.tokens.now a.code.now.text.now a.numbers.now a.marks.now a.space.now _ ns ms ws _ _ (late (at_most a.most) a.code.now.lines.now a.code.now.tokens.now a.code.now.text.now a.numbers.now a.marks.now a.space.now c.in-Err.refusal ns ms ws (equation_of (at_most a.most) few.0 a.code.now.lines.now a.code.now.tokens.now a.code.now.text.now a.numbers.now a.marks.now a.space.now ns ms ws (Err c.in-Err.refusal) c.in-Err.ensures) (search rules)) S.ensures.numbers_after S.ensures.marks_after
