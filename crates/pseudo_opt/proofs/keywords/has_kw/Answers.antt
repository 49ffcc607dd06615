use borrow.Author.Rules.{rules}
use Rattle.definitions.specs.Statements.{has_kw}
use Rattle.pseudo_opt.proofs.Passes.{passes}
use Rattle.pseudo_opt.proofs.keywords.has_kw.Goals as goal

pub returns : goal.returns
unfolding has_kw
returns c = search (passes, rules)
