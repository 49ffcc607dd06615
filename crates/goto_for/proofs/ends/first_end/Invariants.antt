-- `goto_for::ends::first_end` meets its contract. The answer is what is left to look for from place j on.
-- Assumes nothing.
use mathlib.Core.Path.{◌≡◌}
use lib.ListN.{take}
use Rattle.definitions.specs.Lists.{position_from}
use Rattle.definitions.specs.Columns.{listing}
use Rattle.goto_for.specs.Words.{ends_word}
use Rattle.goto_for.proofs.ends.first_end.Given as goal

abbrev pub invariant-loop-j : goal.invariant-loop-j
invariant-loop-j l = position_from l.from (ends_word (listing l.code.lines.now l.code.tokens.now l.code.text.now) l.ind) (take l.n l.plan) ≡ position_from l.j (ends_word (listing l.code.lines.now l.code.tokens.now l.code.text.now) l.ind) (take l.n l.plan)
