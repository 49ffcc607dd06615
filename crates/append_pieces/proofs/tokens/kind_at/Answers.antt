-- `append_pieces::tokens::kind_at` meets its contract. The kind is a byte of the word.
-- Assumes nothing.
use Rattle.append_pieces.proofs.Lines.{kind_of}
use borrow.Author.Rules.{rules}
use Rattle.append_pieces.proofs.tokens.kind_at.Goals as goal

pub kind-requires : goal.kind-requires
kind-requires c = search (kind_of, rules)

pub returns : goal.returns
returns c = search (kind_of, rules)
