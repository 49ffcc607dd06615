-- `append_pieces::tokens::trimmed` meets its contract. Popped, or as it is.
-- Assumes nothing.
use borrow.Author.Rules.{rules}
use Rattle.append_pieces.proofs.Pieces.{trims}
use Rattle.append_pieces.proofs.tokens.trimmed.Goals as goal

pub returns-then-popped : goal.returns-then-popped
returns-then-popped c = search (trims, rules)

pub returns-else-popped : goal.returns-else-popped
returns-else-popped c = search (trims, rules)
