-- `dot::webs::first_of` meets its contract. What is left to find is what is asked for.
-- Assumes nothing.
use Rattle.dot.proofs.WebRules.{Finding}
use Rattle.definitions.specs.Columns.{token_list}
use Rattle.dot.proofs.webs.first_of.Given as goal

abbrev pub invariant-loop-p : goal.invariant-loop-p
invariant-loop-p l = Finding (token_list l.code.tokens.now l.code.text.now) l.numbers l.k l.p
