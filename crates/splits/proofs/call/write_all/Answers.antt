-- `splits::call::write_all` meets its contract. Assumes nothing.
use Rattle.splits.proofs.CallRules.{no_lines_numbers, no_lines_marks}
use Rattle.splits.proofs.call.write_all.Goals as goal

pub returns-then-code-eq0 : goal.returns-then-code-eq0
returns-then-code-eq0 c = let a = c.args in
    let p = c.requires.tokens_value in record { numbers_after = no_lines_numbers a.code.now.lines.now a.code.now.tokens.now a.code.now.text.now a.numbers.now c.if-code-eq0.true p.0 p.1; marks_after = no_lines_marks a.code.now.lines.now a.code.now.tokens.now a.code.now.text.now a.marks.now c.if-code-eq0.true p.0 p.2 }
