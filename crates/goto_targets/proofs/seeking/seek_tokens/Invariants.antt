-- `goto_targets::seeking::seek_tokens` meets its contract. Its invariant: what is left to look at.
-- Assumes nothing.
use mathlib.Core.Path.{◌≡◌}
use Rattle.definitions.specs.Lists.{part}
use Rattle.definitions.specs.Model.{line}
use Rattle.definitions.specs.Columns.{listing}
use Rattle.goto_targets.specs.Seek.{seek, told}
use Rattle.goto_targets.proofs.seeking.seek_tokens.Given as goal

abbrev pub invariant-loop-j : goal.invariant-loop-j
invariant-loop-j l = seek (told l.initial.r) (part 0 l.n (line (listing l.code.lines.now l.code.tokens.now l.code.text.now) l.i).tokens) ≡ seek (told l.r) (part l.j l.n (line (listing l.code.lines.now l.code.tokens.now l.code.text.now) l.i).tokens)
