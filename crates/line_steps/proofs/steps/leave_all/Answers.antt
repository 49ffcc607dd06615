-- `line_steps::steps::leave_all` meets its contract. Assumes nothing.
use Prim.Native.Nat.{suc}
use mathlib.Core.Path.{◌≡◌, refl, ap, ◌∙◌}
use native.Mathlib.Omega.{arith}
use lib.ListN.{length, get_or}
use Rattle.model.specs.Listings.{listing_of}
use Rattle.model.proofs.Decode.{length_listing}
use Rattle.blocks.specs.Entries.{entry, linked}
use Rattle.blocks.specs.Structure.{blocks_of}
use Rattle.line_steps.specs.Drawing.{from, left, lefts}
use Rattle.line_steps.proofs.Edges.{steps_next, steps_end, left_start, left_next, left_end}
use Rattle.line_steps.proofs.steps.leave_all.Goals as goal

pub loop-around-init : goal.loop-around-init
loop-around-init c = let B = c.args.blocks.now in
    let L = listing_of B.keywords.code in
    let n = length_listing B.keywords.code.lines.now B.keywords.code.tokens.now B.keywords.code.text.now in
    let w = B.enclosed.inward c.args.i (omega arith) in
    rw c.opener-around.ensures (w, refl, left_start L (blocks_of L) B.parents.now c.args.i (get_or B.parents.now c.args.i 0) (λ j g. B.enclosed.inward j (omega (arith, n))) w (length B.keywords.code.lines.now) c.args.r c.args.space.now)

pub loop-around-smaller : goal.loop-around-smaller
loop-around-smaller c = let B = c.args.blocks.now in
    let n = length_listing B.keywords.code.lines.now B.keywords.code.tokens.now B.keywords.code.text.now in
    let e : entry c.loop-around.around ≡ suc c.in-Some.h = ap entry c.in-Some.is in
    let w = B.enclosed.inward c.in-Some.h (omega arith) in
    omega arith

pub loop-around-preserved : goal.loop-around-preserved
loop-around-preserved c = let B = c.args.blocks.now in
    let l = c.loop-around in
    let L = listing_of B.keywords.code in
    let b = blocks_of L in
    let n = length_listing B.keywords.code.lines.now B.keywords.code.tokens.now B.keywords.code.text.now in
    let ps = B.parents.now in
    let e : entry l.around ≡ suc c.in-Some.h = ap entry c.in-Some.is in
    let w = B.enclosed.inward c.in-Some.h (omega arith) in rw c.opener-around-in-Some.ensures (
      omega arith,
      c.leave.auto.space ∙ l.invariant.1,
      steps_next (length B.keywords.code.lines.now) c.args.r c.args.i (from c.args.i (lefts L b (linked ps c.args.i (get_or ps c.args.i 0)))) c.args.space.now l.space (lefts L b (linked ps (entry l.around) (entry l.around))) l.invariant.2
          _ (left L b c.in-Some.h) (lefts L b (linked ps (get_or ps c.in-Some.h 0) (get_or ps c.in-Some.h 0))) c.leave.ensures
          (left_next L b ps c.args.i (entry l.around) (λ j g. B.enclosed.inward j (omega (arith, n))) l.invariant.0 c.in-Some.h e),
    )

pub returns : goal.returns
returns c = let B = c.args.blocks.now in
    let l = c.loop-around in
    let L = listing_of B.keywords.code in
    let b = blocks_of L in
    let ps = B.parents.now in
    steps_end (length B.keywords.code.lines.now) c.args.r c.args.i (from c.args.i (lefts L b (linked ps c.args.i (get_or ps c.args.i 0)))) c.args.space.now l.space (lefts L b (linked ps (entry l.around) (entry l.around))) l.invariant.2
    (left_end L b ps (entry l.around) (ap entry c.in_default.is))
