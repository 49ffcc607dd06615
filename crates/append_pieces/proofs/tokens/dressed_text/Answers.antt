-- `append_pieces::tokens::dressed_text` meets its contract. The token, or the last one popped.
-- Assumes nothing.
use Rattle.append_pieces.proofs.Lines.{dressed_plain, dressed_at}
use Rattle.append_pieces.proofs.tokens.dressed_text.Goals.{then-popped, else-popped}
use Rattle.append_pieces.proofs.tokens.dressed_text.Goals as goal

pub returns : goal.returns
returns c = elim c.if-popped.branch [ then-popped w ↦ dressed_at _ _ _ c.requires.0 c.requires.1 _ _ c.text_at.ensures _ _ c.trimmed.ensures w.if-popped.true w.trimmed-is | else-popped w ↦ dressed_plain _ _ _ c.requires.0 c.requires.1 _ _ c.text_at.ensures _ _ c.trimmed.ensures w.if-popped.false w.trimmed-is ]
