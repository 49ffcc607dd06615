use Rattle.dot.proofs.WebRules.{ranking_start, ranking_next, ranking_end}
use native.Mathlib.Omega.{arith}
use borrow.Author.Rules.{rules}
use Rattle.dot.proofs.webs.rank.Goals as goal

pub loop-k-init : goal.loop-k-init
loop-k-init c = ranking_start _ _ _ _ _ (omega arith) (search rules)

pub loop-k-preserved : goal.loop-k-preserved
loop-k-preserved c = search (ranking_next, rules)

pub returns : goal.returns
returns c = search (ranking_end, rules)
