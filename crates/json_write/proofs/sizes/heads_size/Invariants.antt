-- `json_write::sizes::heads_size` meets its contract. Its loop: n is the sum over the first i lines.
-- Assumes nothing.
use Rattle.json_write.specs.Answers.{lines_of}
use Rattle.json_write.specs.Sizes.{head_size}
use Rattle.json_append.proofs.Sums.{Counted}
use Rattle.json_write.proofs.sizes.heads_size.Given as goal

abbrev pub invariant-loop-i : goal.invariant-loop-i
invariant-loop-i l = Counted head_size 75 (lines_of l.code.lines.now l.addresses l.code.tokens.now l.code.text.now) l.n l.i
