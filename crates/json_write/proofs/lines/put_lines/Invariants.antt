-- The lines from i on are not written yet.
use lib.ListN.{length}
use Rattle.definitions.specs.Lists.{part}
use Rattle.json_definitions.specs.Writer.{line_text, elements_text}
use Rattle.json_append.specs.Appended.{Begun}
use Rattle.json_write.specs.Answers.{lines_of}
use Rattle.json_write.proofs.lines.put_lines.Given as goal

abbrev pub invariant-loop-i : goal.invariant-loop-i
invariant-loop-i l =
    let L = lines_of l.code.lines.now l.addresses l.code.tokens.now l.code.text.now in
    let n = length l.code.lines.now in
    Begun l.initial.to (elements_text line_text (part l.from n L)) l.to (elements_text line_text (part l.i n L))
