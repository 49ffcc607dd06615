-- `append_pieces::tokens::add_plain` meets its contract. By the piece's form.
-- Assumes nothing.
use borrow.Author.Rules.{rules}
use Rattle.append_pieces.proofs.Kept.{kept_as_piece}
use Rattle.append_pieces.proofs.tokens.add_plain.Goals as goal

pub returns-in-Kept : goal.returns-in-Kept
returns-in-Kept c = search (kept_as_piece, c.in-Kept.ensures, rules)
