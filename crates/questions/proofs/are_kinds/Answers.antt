use borrow.Author.Rules.{rules}
use Rattle.questions.proofs.Asked.{asked}
use Rattle.questions.proofs.are_kinds.Goals as goal

pub loop-k-preserved : goal.loop-k-preserved
loop-k-preserved c = search (asked, rules)

pub returns : goal.returns
returns c = search (asked, rules)
