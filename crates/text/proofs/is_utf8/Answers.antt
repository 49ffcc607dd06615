use borrow.Author.Rules.{rules}
use Rattle.text.proofs.CodePoints.{code_points}
use Rattle.text.proofs.is_utf8.Goals as goal

pub loop-i-preserved : goal.loop-i-preserved
loop-i-preserved c = search (code_points, rules)
