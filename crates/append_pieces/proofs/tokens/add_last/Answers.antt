-- `append_pieces::tokens::add_last` meets its contract. Popped, or as it is.
-- Assumes nothing.
use Rattle.append.proofs.Appends.{adds_as}
use Rattle.append_pieces.proofs.Pieces.{last_trimmed}
use Rattle.append_pieces.proofs.tokens.add_last.Goals as goal

pub returns : goal.returns
returns c = adds_as (last_trimmed _ _ _ c.trimmed.ensures) c.add.ensures
