-- `pseudo_types::texts::text_from` meets its contract. The tokens are a run, and their texts one part.
-- Assumes nothing.
use Rattle.pseudo_types.proofs.LineTexts.{line_texts}
use borrow.Author.Rules.{rules}
use Rattle.pseudo_types.proofs.texts.text_from.Goals as goal

pub returns-then-j-e : goal.returns-then-j-e
returns-then-j-e c = search (line_texts, rules)
