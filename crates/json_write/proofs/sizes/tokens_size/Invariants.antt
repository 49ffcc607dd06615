-- `json_write::sizes::tokens_size` meets its contract. Its loop: n is the sum over the first k tokens.
-- Assumes nothing.
use Rattle.definitions.specs.Columns.{token_list}
use Rattle.json_write.specs.Sizes.{token_size}
use Rattle.json_append.proofs.Sums.{Counted}
use Rattle.json_write.proofs.sizes.tokens_size.Given as goal

abbrev pub invariant-loop-k : goal.invariant-loop-k
invariant-loop-k l = Counted token_size 24 (token_list l.code.tokens.now l.code.text.now) l.n l.k
