use Rattle.loops.proofs.WordRules.{names_kind}
use Rattle.loops.proofs.for_loops.names_at.Goals as goal

pub returns-else-is : goal.returns-else-is
returns-else-is c = names_kind _ _ _ c.is.ensures c.if-is.false
