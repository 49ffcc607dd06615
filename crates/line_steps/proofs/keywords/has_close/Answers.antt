use borrow.Author.Rules.{rules}
use Rattle.pseudo_opt.proofs.Passes.{passes}
use Rattle.line_steps.proofs.keywords.has_close.Goals as goal

pub returns : goal.returns
returns c = search (passes, rules)
