-- `write::Writer::end_line` meets its contract. A word and an address are stored behind the last, or there is no room for them.
-- Assumes nothing.
use mathlib.Core.Path.{refl}
use borrow.Author.Rules.{rules}
use lib.ListN.{length-set}
use Rattle.write.proofs.Steps.{lines_full, addresses_full, line_ends_full, line_ended, not_written}
use Rattle.write.proofs.Writer.end_line.Goals as goal

pub returns-then-self-k : goal.returns-then-self-k
returns-then-self-k c = not_written refl (λ o. elim c.then-self-k.branch [
  | goal.then-self-k-via-then-self-k w ↦ lines_full _ _ _ _ _ _ _ w.if-self-k.true
  | goal.then-self-k-via-else-self-k+then-self-k-2 w ↦ addresses_full _ _ _ _ _ _ _ w.if-self-k-2.true
  | goal.then-self-k-via-else-self-k+else-self-k-2+then-end-ge-MOST_TOKENS w ↦ line_ends_full _ _ _ _ _ _ _ w.if-end-ge-MOST_TOKENS.true
])

pub returns : goal.returns
returns c = record { same = search (length-set, rules); kept = refl; holds = λ o. line_ended _ _ _ _ _ _ _ _ _ c.flag.ensures.0 c.unwrap_or.ensures c.if-self-k.false c.if-self-k-2.false }
