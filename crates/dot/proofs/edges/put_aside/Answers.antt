use Rattle.json_append.proofs.Appends.{wrote_as}
use Rattle.dot.proofs.EdgeRules.{aside_earlier}
use Rattle.dot.proofs.edges.put_aside.Goals as goal

pub returns-else-i-j : goal.returns-else-i-j
returns-else-i-j c = wrote_as _ _ _ _ (aside_earlier _ _ c.if-i-j.false) c.put_arrow-else-i-j.ensures
