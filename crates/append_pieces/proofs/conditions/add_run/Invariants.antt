-- `append_pieces::conditions::add_run` meets its contract. What is left to append from token j on.
-- Assumes nothing.
use Rattle.definitions.specs.Model.{line}
use Rattle.definitions.specs.Columns.{listing}
use Prim.Native.Nat.{◌+◌}
use Rattle.pseudo_types.specs.Cuts.{cut_run}
use Rattle.append.specs.Adds.{whole}
use Rattle.append_pieces.proofs.Runs.{Left}
use Rattle.append_pieces.proofs.conditions.add_run.Given as goal

abbrev pub invariant-loop-j : goal.invariant-loop-j
invariant-loop-j l = Left l.merged (whole (cut_run (line (listing l.code.lines.now l.code.tokens.now l.code.text.now) l.i) l.cut.keyword l.cut.end (l.cut.keyword + 1))) l.initial.out (whole (cut_run (line (listing l.code.lines.now l.code.tokens.now l.code.text.now) l.i) l.cut.keyword l.cut.end l.j)) l.out
