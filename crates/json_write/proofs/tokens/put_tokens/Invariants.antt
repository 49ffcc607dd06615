-- The elements from k on are not written yet.
use Rattle.definitions.specs.Lists.{part}
use Rattle.definitions.specs.Columns.{token_list}
use Rattle.json_definitions.specs.Writer.{token_text, elements_text}
use Rattle.json_append.specs.Appended.{Begun}
use Rattle.json_write.proofs.tokens.put_tokens.Given as goal

abbrev pub invariant-loop-k : goal.invariant-loop-k
invariant-loop-k l =
    let T = token_list l.code.tokens.now l.code.text.now in
    Begun l.initial.to (elements_text token_text (part l.from l.end T)) l.to (elements_text token_text (part l.k l.end T))
