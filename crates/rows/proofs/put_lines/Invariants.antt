-- The rows of the lines from i on are not written yet.
use lib.ListN.{length}
use Rattle.json_append.specs.Appended.{Begun}
use Rattle.rows.specs.Rows.{rows, line_rows}
use Rattle.rows.proofs.put_lines.Given as goal

abbrev pub invariant-loop-i : goal.invariant-loop-i
invariant-loop-i l =
    let row = line_rows l.code.lines.now l.code.tokens.now l.code.text.now l.numbers l.marks in
    let n = length l.code.lines.now in
    Begun l.initial.to (rows row 0 n) l.to (rows row l.i n)
