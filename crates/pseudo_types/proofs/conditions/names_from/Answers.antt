use Rattle.pseudo_types.proofs.CutRuns.{cut_names}
use borrow.Author.Rules.{rules}
use Rattle.pseudo_types.proofs.conditions.names_from.Goals as goal

pub returns : goal.returns
returns c = search (cut_names, rules)
