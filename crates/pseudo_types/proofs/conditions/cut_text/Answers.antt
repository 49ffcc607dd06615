-- `pseudo_types::conditions::cut_text` meets its contract. A part of a part.
-- Assumes nothing.
use Rattle.pseudo_types.proofs.CutRuns.{cut_at}
use borrow.Author.Rules.{rules}
use Rattle.pseudo_types.proofs.conditions.cut_text.Goals as goal

pub returns : goal.returns
returns c = search (cut_at, rules)
