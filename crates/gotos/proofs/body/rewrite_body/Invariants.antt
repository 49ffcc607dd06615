-- `gotos::body::rewrite_body` meets its contract. Line by line.
-- Assumes nothing.
use Rattle.gotos.specs.Body.{name_of}
use Rattle.definitions.specs.Columns.{listing}
use Rattle.gotos.proofs.BodyRules.{Rewriting}
use Rattle.gotos.proofs.body.rewrite_body.Given as goal

abbrev pub invariant-loop-k : goal.invariant-loop-k
invariant-loop-k l = Rewriting (listing l.code.lines.now l.code.tokens.now l.code.text.now) l.h (name_of l.exit) l.n l.a l.e l.initial.plan l.plan l.k
