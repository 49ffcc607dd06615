use borrow.Author.Rules.{rules}
use Rattle.pseudo_opt.proofs.Passes.{seeks}
use Rattle.enters.proofs.marks.first_g.Goals as goal

pub returns-then-has_g : goal.returns-then-has_g
returns-then-has_g c = search (seeks, rules)

pub returns : goal.returns
returns c = search (seeks, rules)
