use mathlib.Core.List.{[]}
use Rattle.std.specs.Prelude.{if◌then◌else◌}
use Prim.Native.Nat.{◌+◌, ◌-◌}
use mathlib.Core.List.{◌∷◌}
use mathlib.Core.Path.{refl, ◌∙◌}
use lib.ListN.{length}
use Rattle.definitions.specs.Lists.{filter, range}
use Rattle.definitions.specs.FlowGraph.{is_case}
use Rattle.definitions.specs.Columns.{listing}
use Rattle.definitions.specs.Model.{line}
use Rattle.line_steps.specs.Drawing.{from}
use Rattle.line_steps.proofs.Edges.{steps_next, steps_end, case_left, case_end}
use Rattle.line_steps.proofs.Drawings.{matrices_kept, drawing_start}
use Rattle.line_steps.proofs.steps.case_steps.Goals as goal

pub loop-j-init : goal.loop-j-init
loop-j-init c = let a = c.args in
    (refl, drawing_start (length a.keywords.now.code.lines.now) a.r a.space.now (from a.h (filter (λ j. is_case (line (listing a.keywords.now.code.lines.now a.keywords.now.code.tokens.now a.keywords.now.code.text.now) j)) (range (a.h + 1) (a.c - (a.h + 1))))))

pub case_step-requires : goal.case_step-requires
case_step-requires c = let a = c.args in
    (matrices_kept (length a.keywords.now.code.lines.now) a.r a.space.now c.loop-j.space c.requires.0 c.loop-j.invariant.0, c.requires.1)

pub loop-j-preserved : goal.loop-j-preserved
loop-j-preserved c = let a = c.args in
    let l = c.loop-j in (
      c.case_step.auto.space ∙ l.invariant.0,
      steps_next (length a.keywords.now.code.lines.now) a.r a.h (from a.h (filter (λ j. is_case (line (listing a.keywords.now.code.lines.now a.keywords.now.code.tokens.now a.keywords.now.code.text.now) j)) (range (a.h + 1) (a.c - (a.h + 1))))) a.space.now l.space (filter (λ j. is_case (line (listing a.keywords.now.code.lines.now a.keywords.now.code.tokens.now a.keywords.now.code.text.now) j)) (range l.j (a.c - l.j))) l.invariant.1
          _ (if is_case (line (listing a.keywords.now.code.lines.now a.keywords.now.code.tokens.now a.keywords.now.code.text.now) l.j) then l.j ∷ [] else []) (filter (λ j. is_case (line (listing a.keywords.now.code.lines.now a.keywords.now.code.tokens.now a.keywords.now.code.text.now) j)) (range (l.j + 1) (a.c - (l.j + 1)))) c.case_step.ensures (case_left (λ j. is_case (line (listing a.keywords.now.code.lines.now a.keywords.now.code.tokens.now a.keywords.now.code.text.now) j)) l.j a.c c.loop-j-test.true),
    )

pub returns : goal.returns
returns c = let a = c.args in
    let l = c.loop-j in
    steps_end (length a.keywords.now.code.lines.now) a.r a.h (from a.h (filter (λ j. is_case (line (listing a.keywords.now.code.lines.now a.keywords.now.code.tokens.now a.keywords.now.code.text.now) j)) (range (a.h + 1) (a.c - (a.h + 1))))) a.space.now l.space (filter (λ j. is_case (line (listing a.keywords.now.code.lines.now a.keywords.now.code.tokens.now a.keywords.now.code.text.now) j)) (range l.j (a.c - l.j))) l.invariant.1 (case_end (λ j. is_case (line (listing a.keywords.now.code.lines.now a.keywords.now.code.tokens.now a.keywords.now.code.text.now) j)) l.j a.c c.loop-j-test.false)
