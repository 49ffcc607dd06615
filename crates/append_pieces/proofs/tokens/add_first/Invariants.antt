-- `append_pieces::tokens::add_first` meets its contract. What is left to append from token j on.
-- Assumes nothing.
use Rattle.definitions.specs.Model.{line}
use Rattle.definitions.specs.Columns.{listing}
use lib.ListN.{take, drop}
use Rattle.append_pieces.specs.Dressed.{dressed}
use Rattle.append_pieces.proofs.Runs.{Left}
use Rattle.append_pieces.proofs.tokens.add_first.Given as goal

abbrev pub invariant-loop-j : goal.invariant-loop-j
invariant-loop-j l = Left l.merged (dressed l.popped (take l.n (line (listing l.code.lines.now l.code.tokens.now l.code.text.now) l.i).tokens)) l.initial.out (drop l.j (dressed l.popped (take l.n (line (listing l.code.lines.now l.code.tokens.now l.code.text.now) l.i).tokens))) l.out
