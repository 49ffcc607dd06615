use native.Mathlib.Omega.{arith}
use Rattle.json_definitions.specs.Writer.{line_text}
use Rattle.json_write.specs.Answers.{lines_of}
use Rattle.json_write.proofs.ElementRules.{elements_next, elements_end}
use Rattle.json_write.proofs.LineRules.{length_lines, lines_part}
use Rattle.json_write.proofs.lines.put_lines.Goals as goal

pub loop-i-preserved : goal.loop-i-preserved
loop-i-preserved c = let a = c.args in
    elements_next line_text (lines_of a.code.now.lines.now a.addresses.now a.code.now.tokens.now a.code.now.text.now) _ _ _ _ _ c.loop-i.invariant _ c.loop-i-test.true
    (omega (arith, length_lines a.code.now.lines.now a.addresses.now a.code.now.tokens.now a.code.now.text.now c.requires)) _ c.put_next_line.ensures

pub returns : goal.returns
returns c = let a = c.args in
    rw (← lines_part a.code.now.lines.now a.addresses.now a.code.now.tokens.now a.code.now.text.now c.requires a.from)
    (elements_end line_text (lines_of a.code.now.lines.now a.addresses.now a.code.now.tokens.now a.code.now.text.now) _ _ _ _ _ c.loop-i.invariant c.loop-i-test.false _ c.put_byte.ensures)
