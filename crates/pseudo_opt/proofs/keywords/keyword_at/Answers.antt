use borrow.Author.Rules.{rules}
use Rattle.pseudo_opt.proofs.Passes.{seeks}
use Rattle.pseudo_opt.proofs.keywords.keyword_at.Goals as goal

pub returns-then-kw_at : goal.returns-then-kw_at
returns-then-kw_at c = search (seeks, rules)

pub returns : goal.returns
returns c = search (seeks, rules)
