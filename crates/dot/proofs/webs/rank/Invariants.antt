-- `dot::webs::rank` meets its contract. The tokens before k are ranked, and c webs appear before it.
-- Assumes nothing.
use Rattle.dot.proofs.WebRules.{Ranking}
use Rattle.definitions.specs.Columns.{token_list}
use lib.ListN.{length}
use Rattle.dot.proofs.webs.rank.Given as goal

abbrev pub invariant-loop-k : goal.invariant-loop-k
invariant-loop-k l = Ranking (token_list l.code.tokens.now l.code.text.now) l.numbers (length l.code.tokens.now) (length l.initial.ranks) l.ranks l.c l.k
