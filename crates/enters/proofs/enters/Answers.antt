-- `enters::enters` meets its contract. The lines before the loop, then those behind it.
-- Assumes nothing.
use borrow.Author.Rules.{rules}
use Rattle.enters.proofs.EnterRules.{enterings}
use Rattle.enters.proofs.enters.Goals as goal

pub any_goes_inside-requires-clause-text_value : goal.any_goes_inside-requires-clause-text_value
any_goes_inside-requires-clause-text_value c = search (enterings, rules)

pub any_goes_inside-requires-else-any_goes_inside-clause-text_value : goal.any_goes_inside-requires-else-any_goes_inside-clause-text_value
any_goes_inside-requires-else-any_goes_inside-clause-text_value c = search (enterings, rules)
