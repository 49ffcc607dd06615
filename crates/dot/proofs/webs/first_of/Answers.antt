use Rattle.dot.proofs.WebRules.{family_is, finding_start, finding_found, finding_next, finding_end}
use borrow.Author.Rules.{rules}
use Rattle.dot.proofs.webs.first_of.Goals as goal

pub loop-p-init : goal.loop-p-init
loop-p-init c = finding_start _ _ _

pub same_web-requires : goal.same_web-requires
same_web-requires c = search (family_is, rules)

pub returns-then-same_web : goal.returns-then-same_web
returns-then-same_web c = search (finding_found, rules)

pub loop-p-preserved : goal.loop-p-preserved
loop-p-preserved c = search (finding_next, rules)

pub returns : goal.returns
returns c = search (finding_end, rules)
