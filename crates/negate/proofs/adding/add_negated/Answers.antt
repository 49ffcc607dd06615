-- `negate::adding::add_negated` meets its contract. By the answer: the comparison flipped, or brackets around.
-- Assumes nothing.
use Rattle.append.proofs.Appends.{adds_as}
use Rattle.negate.proofs.Appends.{adds_around, adds_flip}
use Rattle.negate.specs.Comparisons.{negation}
use Rattle.definitions.specs.Columns.{listing}
use Rattle.definitions.specs.Model.{Line, line}
use Prim.Native.Nat.{ℕ}
use mathlib.Core.Path.{ap, ◌∙◌}
use Rattle.negate.proofs.adding.add_negated.Goals as goal

pub returns-in_default : goal.returns-in_default
returns-in_default c = let a = c.args in
    let L : Line = (line (listing a.code.now.lines.now a.code.now.tokens.now a.code.now.text.now) a.i) in
    adds_as (ap (λ (m : ℕ). negation L m c.only_comparison-o.result) c.test_count-m.ensures ∙ c.only_comparison-o.ensures)
    (adds_around L c.test_count-m.result c.only_comparison-o.result c.in_default.is c.add_merged.ensures c.add_test_tokens.ensures c.add_merged-in_default.ensures)

pub returns : goal.returns
returns c = let a = c.args in
    let L : Line = (line (listing a.code.now.lines.now a.code.now.tokens.now a.code.now.text.now) a.i) in
    adds_as (ap (λ (m : ℕ). negation L m c.only_comparison-o.result) c.test_count-m.ensures ∙ c.only_comparison-o.ensures)
    (adds_flip L c.test_count-m.result c.only_comparison-o.result _ c.in-Some.is c.add_test_tokens-2.ensures)
