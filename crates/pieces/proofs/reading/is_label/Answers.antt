-- `pieces::reading::is_label` meets its contract. What is cut or a brace is no label and has no goto.
-- Assumes nothing.
use borrow.Author.Rules.{rules}
use Rattle.pieces.proofs.Forms.{reads}
use Rattle.pieces.proofs.reading.is_label.Goals as goal

pub returns-in_default : goal.returns-in_default
returns-in_default c = search (reads, rules)
