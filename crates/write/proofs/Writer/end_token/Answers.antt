-- `write::Writer::end_token` meets its contract. A word is stored behind the last, or there is no room for it.
-- Assumes nothing.
use mathlib.Core.Path.{refl}
use borrow.Author.Rules.{rules}
use lib.ListN.{length-set}
use Rattle.write.proofs.Steps.{tokens_full, token_ends_full, token_ended, not_written}
use Rattle.write.proofs.Writer.end_token.Goals as goal

pub returns-then-self-k : goal.returns-then-self-k
returns-then-self-k c = not_written refl (λ o. elim c.then-self-k.branch [
  | goal.then-self-k-via-then-self-k w ↦ tokens_full _ _ _ _ _ _ w.if-self-k.true
  | goal.then-self-k-via-else-self-k+then-end-ge-MOST_BYTES w ↦ token_ends_full _ _ _ _ _ _ w.if-end-ge-MOST_BYTES.true
])

pub returns : goal.returns
returns c = record { same = search (length-set, rules); kept = refl; holds = λ o. token_ended _ _ _ _ _ _ c.if-self-k.false }
