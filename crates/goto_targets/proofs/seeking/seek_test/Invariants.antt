-- `goto_targets::seeking::seek_test` meets its contract. Its invariant: what is left to look at.
-- Assumes nothing.
use mathlib.Core.Path.{◌≡◌}
use Rattle.definitions.specs.Model.{line}
use Rattle.definitions.specs.Columns.{listing}
use Rattle.negate.specs.Tests.{test_from}
use Rattle.append.specs.Adds.{whole}
use Rattle.goto_targets.specs.Seek.{seek, told}
use Rattle.goto_targets.proofs.seeking.seek_test.Given as goal

abbrev pub invariant-loop-k : goal.invariant-loop-k
invariant-loop-k l = seek (told l.initial.r) (whole (test_from (line (listing l.code.lines.now l.code.tokens.now l.code.text.now) l.i) l.m 0)) ≡ seek (told l.r) (whole (test_from (line (listing l.code.lines.now l.code.tokens.now l.code.text.now) l.i) l.m l.k))
