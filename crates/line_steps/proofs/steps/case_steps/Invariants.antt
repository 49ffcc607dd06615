-- `line_steps::steps::case_steps` meets its contract. The cases from line j on are left to draw. Assumes nothing.
use Prim.Native.Nat.{◌+◌, ◌-◌}
use mathlib.Core.Path.{◌≡◌}
use lib.ListN.{length}
use Rattle.definitions.specs.Lists.{filter, range}
use Rattle.definitions.specs.FlowGraph.{is_case}
use Rattle.definitions.specs.Columns.{listing}
use Rattle.definitions.specs.Model.{line}
use Rattle.line_steps.specs.Drawing.{Drawing, from}
use Rattle.line_steps.proofs.steps.case_steps.Given as goal

abbrev pub invariant-loop-j : goal.invariant-loop-j
invariant-loop-j l = (length l.space ≡ length l.initial.space) × Drawing (length l.keywords.code.lines.now) l.r l.initial.space l.space (from l.h (filter (λ q. is_case (line (listing l.keywords.code.lines.now l.keywords.code.tokens.now l.keywords.code.text.now) q)) (range (l.h + 1) (l.c - (l.h + 1))))) (from l.h (filter (λ q. is_case (line (listing l.keywords.code.lines.now l.keywords.code.tokens.now l.keywords.code.text.now) q)) (range l.j (l.c - l.j))))
