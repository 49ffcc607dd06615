-- `append_pieces::tokens::add_kept` meets its contract. The tokens of a line stand one behind the other.
-- Assumes nothing.
use borrow.Author.Rules.{rules}
use Rattle.model.proofs.Formed.{formed_tokens}
use Rattle.append_pieces.proofs.Kept.{kept_none, kept_run}
use Rattle.append_pieces.proofs.tokens.add_kept.Goals as goal

pub add_run-requires : goal.add_run-requires
add_run-requires c = search (formed_tokens, rules)

pub returns-then-s-e : goal.returns-then-s-e
returns-then-s-e c = search (kept_run, rules)

pub returns-else-s-e : goal.returns-else-s-e
returns-else-s-e c = search (kept_none, rules)
