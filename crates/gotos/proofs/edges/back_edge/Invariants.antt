-- `gotos::edges::back_edge` meets its contract. The answer is what is left to look at, or the place so far.
-- Assumes nothing.
use Rattle.gotos.specs.Edges.{or_later, back_from}
use Rattle.plan.specs.Plan.{render}
use Rattle.definitions.specs.Columns.{listing}
use lib.ListN.{take}
use mathlib.Core.Path.{◌≡◌}
use Rattle.gotos.proofs.edges.back_edge.Given as goal

abbrev pub invariant-loop-j : goal.invariant-loop-j
invariant-loop-j l = back_from (render (listing l.code.lines.now l.code.tokens.now l.code.text.now) (take l.n l.plan)) l.h l.ind l.d l.from ≡ or_later (l.best) (back_from (render (listing l.code.lines.now l.code.tokens.now l.code.text.now) (take l.n l.plan)) l.h l.ind l.d l.j)
