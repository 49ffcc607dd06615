-- `goto_for::ends::continues` meets its contract. The answer is what is left to look for from place j on.
-- Assumes nothing.
use mathlib.Core.Path.{◌≡◌}
use Rattle.definitions.specs.Lists.{any, part}
use Rattle.definitions.specs.Columns.{listing}
use Rattle.goto_for.specs.Words.{continue_word}
use Rattle.goto_for.proofs.ends.continues.Given as goal

abbrev pub invariant-loop-j : goal.invariant-loop-j
invariant-loop-j l = any (continue_word (listing l.code.lines.now l.code.tokens.now l.code.text.now)) (part l.a l.e l.plan) ≡ any (continue_word (listing l.code.lines.now l.code.tokens.now l.code.text.now)) (part l.j l.e l.plan)
