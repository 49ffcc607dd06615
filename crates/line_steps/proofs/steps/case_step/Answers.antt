-- `line_steps::steps::case_step` meets its contract. Assumes nothing.
use mathlib.Core.List.{[]}
use mathlib.Core.List.{◌∷◌}
use lib.ListN.{length}
use Rattle.definitions.specs.FlowGraph.{is_case}
use Rattle.definitions.specs.Columns.{listing}
use Rattle.definitions.specs.Model.{line}
use Rattle.line_steps.proofs.Edges.{test_yes, test_no}
use Rattle.line_steps.proofs.steps.case_step.Goals as goal

pub returns-then-is_case : goal.returns-then-is_case
returns-then-is_case c = let a = c.args in
    test_yes (length a.keywords.now.code.lines.now) a.r a.h c.is_case.result (is_case (line (listing a.keywords.now.code.lines.now a.keywords.now.code.tokens.now a.keywords.now.code.text.now) a.j)) c.is_case.ensures (a.j ∷ []) _ _ c.if-is_case.true c.step.ensures

pub returns-else-is_case : goal.returns-else-is_case
returns-else-is_case c = let a = c.args in
    test_no (length a.keywords.now.code.lines.now) a.r a.h c.is_case.result (is_case (line (listing a.keywords.now.code.lines.now a.keywords.now.code.tokens.now a.keywords.now.code.text.now) a.j)) c.is_case.ensures (a.j ∷ []) _ c.if-is_case.false
