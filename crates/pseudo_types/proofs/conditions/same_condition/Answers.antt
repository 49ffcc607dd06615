-- `pseudo_types::conditions::same_condition` meets its contract. The two texts are compared.
-- Assumes nothing.
use Rattle.pseudo_types.proofs.CutTexts.{same_is}
use borrow.Author.Rules.{rules}
use Rattle.pseudo_types.proofs.conditions.same_condition.Goals as goal

pub returns : goal.returns
returns c = search (same_is, rules)
