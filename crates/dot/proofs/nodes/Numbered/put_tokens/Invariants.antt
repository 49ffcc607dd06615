-- The tokens from k on are not written yet.
use Rattle.definitions.specs.Columns.{token_list}
use Rattle.model.specs.Places.{line_start}
use Rattle.json_append.specs.Appended.{Begun}
use Rattle.rows.specs.Rows.{rows}
use Rattle.dot.specs.Dot.{token_text}
use Rattle.dot.proofs.nodes.Numbered.put_tokens.Given as goal

abbrev pub invariant-loop-k : goal.invariant-loop-k
invariant-loop-k l =
    let text = token_text (token_list l.self.code.now.tokens.now l.self.code.now.text.now) l.self.numbers.now in
    Begun l.initial.to (rows text (line_start l.self.code.now.lines.now l.i) l.end) l.to (rows text l.k l.end)
