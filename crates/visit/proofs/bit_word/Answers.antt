use Rattle.visit.proofs.StepLaws.{word_there, word_none}
use Rattle.visit.proofs.bit_word.Goals as goal

pub returns-then-d-k : goal.returns-then-d-k
returns-then-d-k c = word_there _ _ c.if-d-k.true

pub returns-else-d-k : goal.returns-else-d-k
returns-else-d-k c = word_none _ _ c.if-d-k.false
