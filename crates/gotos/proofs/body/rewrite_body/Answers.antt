use borrow.Author.Rules.{rules}
use Rattle.gotos.proofs.BodyRules.{rewriting}
use Rattle.gotos.proofs.body.rewrite_body.Goals as goal

pub loop-k-preserved : goal.loop-k-preserved
loop-k-preserved c = search (rewriting, rules)
