use Rattle.recover.proofs.SetRules.{members_start, members_next}
use borrow.Author.Rules.{rules}
use Rattle.recover.proofs.sets.members.Goals as goal

pub loop-q-init : goal.loop-q-init
loop-q-init c = search (members_start, rules)

pub loop-q-preserved : goal.loop-q-preserved
loop-q-preserved c = search (members_next, rules)
