-- `splits::call::write` meets its contract.
-- Assumes nothing.
use native.Mathlib.Omega.{arith}
use Rattle.words.proofs.Zeros.{zeros}
use Rattle.splits.proofs.CallRules.{starts_few, numbers_are, marks_are}
use Rattle.splits.proofs.call.write.Goals as goal

pub write_lines-requires : goal.write_lines-requires
write_lines-requires c = let a = c.args in
    let p = c.requires in
    let f = c.find_starts-count.ensures in
    rw c.new-lookup.ensures.0 record { tokens_value = (p.tokens_value.0, p.lines_nonzero.1, p.tokens_value.1, p.tokens_value.2); by_index = (starts_few a.code.now.lines.now a.code.now.tokens.now a.code.now.text.now _ f.starts p.lines_nonzero.1, omega arith, zeros 1024) }

pub returns : goal.returns
returns c = let a = c.args in
    let p = c.requires in
    let f = c.find_starts-count.ensures in
    let w = c.write_lines.ensures in
    let numbers = rw c.new-lookup.ensures.0 at w.numbers_after in
    let marks = rw c.new-lookup.ensures.0 at w.marks_after in record { numbers_after = numbers_are a.code.now.lines.now a.code.now.tokens.now a.code.now.text.now _ f.starts p.lines_nonzero.1 p.tokens_value.0 _ numbers; marks_after = marks_are a.code.now.lines.now a.code.now.tokens.now a.code.now.text.now _ f.starts p.lines_nonzero.1 p.tokens_value.0 _ marks }
