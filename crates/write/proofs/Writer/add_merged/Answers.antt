-- `write::Writer::add_merged` meets its contract. The bytes, then the token's end.
-- Assumes nothing.
use Rattle.write.proofs.Steps.{text_alone, tokens_alone, in_turn}
use Rattle.write.proofs.Writer.add_merged.Goals as goal

pub returns : goal.returns
returns c = in_turn (text_alone c.add_bytes.ensures) (tokens_alone c.end_merged.ensures)
