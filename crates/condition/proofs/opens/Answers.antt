-- `condition::opens` meets its contract. Assumes nothing.
use borrow.Author.Rules.{rules}
use Rattle.pseudo_opt.proofs.Rules.{texts}
use Rattle.condition.proofs.opens.Goals as goal

pub returns : goal.returns
returns c = search (texts, rules)
