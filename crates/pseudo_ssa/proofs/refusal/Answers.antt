-- `pseudo_ssa::refusal` meets its contract. Assumes nothing.
use Rattle.pseudo_ssa.proofs.Asking.{lines_few}
use Rattle.pseudo_ssa.proofs.refusal.Goals as goal

pub question_5-requires : goal.question_5-requires
question_5-requires c = lines_few _ _ _ _ c.in_ok-ask.ensures c.requires
