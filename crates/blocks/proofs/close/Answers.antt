use Prim.Native.Nat.{◌+◌, ◌-◌}
use mathlib.Core.Path.{◌≡◌, ap, ◌∙◌, refl}
use native.Mathlib.Omega.{arith}
use lib.ListN.{length-set, length}
use Rattle.blocks.proofs.Stacks.{held_count, closing_start, closing_next, closing_fail, closing_end}
use Rattle.blocks.proofs.close.Goals as goal

pub loop-j-init : goal.loop-j-init
loop-j-init c = let z : c.args.k - 0 ≡ c.args.k = omega arith in rw z (omega arith, refl, refl, λ o H h. closing_start c.args.i c.args.k o c.args.ends.now c.args.parents.now c.args.counts.now c.args.top c.args.k refl H)

pub returns-then-p-eq0 : goal.returns-then-p-eq0
returns-then-p-eq0 c = λ o H h. closing_fail c.args.i c.args.k o c.loop-j.ends c.args.parents.now c.loop-j.counts c.loop-j.p (c.args.k - c.loop-j.j) (c.loop-j.invariant.3 o H h) (omega arith) c.if-p-eq0.true

pub overflow_sub-h : goal.overflow_sub-h
overflow_sub-h c = omega arith

pub offset_bounds-ends-h : goal.offset_bounds-ends-h
offset_bounds-ends-h c = omega (arith, (c.loop-j.invariant.3 c.requires.held.0 c.requires.held.1 c.requires.held.2).held.below)

pub bounds-ends-h : goal.bounds-ends-h
bounds-ends-h c = omega (arith, (c.loop-j.invariant.3 c.requires.held.0 c.requires.held.1 c.requires.held.2).held.below)

pub pop-p-requires : goal.pop-p-requires
pop-p-requires c = let a = c.args in
    let H = (c.loop-j.invariant.3 c.requires.held.0 c.requires.held.1 c.requires.held.2).held in
    (omega (arith, H.below), omega (arith, H.below), held_count c.loop-j.ends a.parents.now c.loop-j.counts c.loop-j.p a.i _ H c.if-p-eq0.false)

pub loop-j-preserved : goal.loop-j-preserved
loop-j-preserved c = let a = c.args in
    let l = c.loop-j in
    let z : a.k - (l.j + 1) ≡ a.k - l.j - 1 = omega arith in rw z (
      omega arith,
      simp length-set l.invariant.1,
      ap length c.pop-p.ensures.counts_after ∙ simp length-set l.invariant.2,
      λ o H h. closing_next a.i a.k o l.ends a.parents.now l.counts l.p (a.k - l.j) (l.invariant.3 o H h) (omega arith) c.if-p-eq0.false
          (omega arith) (omega arith) h _ _ c.pop-p.ensures.counts_after c.pop-p.ensures.value,
    )

pub returns : goal.returns
returns c = λ o H h. closing_end c.args.i c.args.k o c.loop-j.ends c.args.parents.now c.loop-j.counts c.loop-j.p (c.args.k - c.loop-j.j) (c.loop-j.invariant.3 o H h) (omega arith)
