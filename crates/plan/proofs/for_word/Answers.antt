-- `plan::for_word` meets its contract. By its parts.
-- Assumes nothing.
use Rattle.plan.specs.Changes.{for_word}
use borrow.Author.Rules.{rules}
use Rattle.plan.proofs.for_word.Goals as goal

pub returns : goal.returns
unfolding for_word
returns c = search rules
