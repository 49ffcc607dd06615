use borrow.Author.Rules.{rules}
use Rattle.negate.specs.Comparisons.{named}
use Rattle.negate.proofs.Scanning.{op_width_of}
use Rattle.negate.proofs.comparison.Comparison.width.Goals as goal

pub returns-in-Equal : goal.returns-in-Equal
unfolding named
returns-in-Equal c = search (op_width_of, rules)

pub returns-in-Less : goal.returns-in-Less
unfolding named
returns-in-Less c = search (op_width_of, rules)
