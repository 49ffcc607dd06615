use Rattle.text.proofs.Loops.{loops}
use borrow.Author.Rules.{rules}
use Rattle.loops.proofs.for_loops.rest_names.Goals as goal

pub returns : goal.returns
returns c = search (loops, rules)
