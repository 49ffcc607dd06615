-- The rows of the tokens from k on are not written yet.
use Rattle.model.specs.Places.{line_start}
use Rattle.json_append.specs.Appended.{Begun}
use Rattle.rows.specs.Rows.{rows, row_at}
use Rattle.rows.proofs.put_line.Given as goal

abbrev pub invariant-loop-k : goal.invariant-loop-k
invariant-loop-k l =
    let row = row_at l.code.lines.now l.code.tokens.now l.code.text.now l.numbers l.marks l.i in
    Begun l.initial.to (rows row (line_start l.code.lines.now l.i) l.end) l.to (rows row l.k l.end)
