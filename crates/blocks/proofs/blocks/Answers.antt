use mathlib.Core.Path.{refl, ◌∙◌}
use native.Mathlib.Omega.{arith}
use borrow.Author.Rules.{rules}
use Rattle.definitions.specs.Columns.{listing}
use Rattle.model.proofs.Decode.{length_listing}
use Rattle.braces.specs.Counted.{counted}
use Rattle.blocks.proofs.Reading.{closed_below, reading_start, reading_next, reading_fail, reading_end}
use Rattle.blocks.proofs.blocks.Goals as goal

pub loop-i-init : goal.loop-i-init
loop-i-init c = (search rules, refl, refl, refl, reading_start _ _ _ _)

pub close-requires : goal.close-requires
close-requires c = let l = c.loop-i in
    let a = c.args in record { i_in_bounds = (omega arith, omega arith, omega arith, omega arith); held = (l.invariant.4.at, l.invariant.4.held, omega (arith, l.invariant.4.size, length_listing a.code.now.lines.now a.code.now.tokens.now a.code.now.text.now)) }

pub returns-in_default : goal.returns-in_default
returns-in_default c = let a = c.args in
    let l = c.loop-i in
    reading_fail (listing a.code.now.lines.now a.code.now.tokens.now a.code.now.text.now) l.ends l.parents l.counts l.top l.i l.invariant.4
    (omega (arith, length_listing a.code.now.lines.now a.code.now.tokens.now a.code.now.text.now)) (counted c.line_braces-b.result) c.line_braces-b.ensures
    _ _ c.close.result c.close.ensures _ _ c.in_default.is

pub enter-top-requires : goal.enter-top-requires
enter-top-requires c = let a = c.args in
    let l = c.loop-i in
    let t = c.loop-i-test.true in
    let C = c.close in
    let r = c.requires in
    (omega (arith, C.auto.ends, l.invariant.1, r.0, t), omega (arith, l.invariant.2, r.1, t), omega (arith, C.auto.counts, l.invariant.3, r.2, t), omega (arith, t, r.3), closed_below l.i _ l.invariant.4.at _ _ _ C.result _ (C.ensures l.invariant.4.at l.invariant.4.held (omega (arith, t, l.invariant.4.size, length_listing a.code.now.lines.now a.code.now.tokens.now a.code.now.text.now))) (search rules))

pub loop-i-preserved : goal.loop-i-preserved
loop-i-preserved c = let a = c.args in
    let l = c.loop-i in
    let t = c.loop-i-test.true in
    let r = c.requires in (
      omega (arith, t),
      c.enter-top.auto.ends ∙ c.close.auto.ends ∙ l.invariant.1,
      c.enter-top.auto.parents ∙ l.invariant.2,
      c.enter-top.auto.counts ∙ c.close.auto.counts ∙ l.invariant.3,
      reading_next (listing a.code.now.lines.now a.code.now.tokens.now a.code.now.text.now) l.ends l.parents l.counts l.top l.i l.invariant.4
          (omega (arith, c.loop-i-test.true, length_listing a.code.now.lines.now a.code.now.tokens.now a.code.now.text.now)) (counted c.line_braces-b.result) c.line_braces-b.ensures
          _ _ c.close.result c.close.ensures _ (search rules)
          (omega (arith, c.close.auto.ends, l.invariant.1, r.0, t)) (omega (arith, l.invariant.2, r.1, t)) (omega (arith, c.close.auto.counts, l.invariant.3, r.2, t)) _ _ _ _ c.enter-top.ensures.ends_after c.enter-top.ensures.parents_after c.enter-top.ensures.counts_after c.enter-top.ensures.value,
    )

pub returns : goal.returns
returns c = let a = c.args in
    let l = c.loop-i in
    let n = length_listing a.code.now.lines.now a.code.now.tokens.now a.code.now.text.now in
    reading_end (listing a.code.now.lines.now a.code.now.tokens.now a.code.now.text.now) l.ends l.parents l.counts l.top l.i l.invariant.4 (omega (arith, n, l.invariant.0)) (omega (arith, n, c.loop-i-test.false))
