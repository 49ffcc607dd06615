use mathlib.Core.Path.{refl, ◌∙◌}
use native.Mathlib.Omega.{arith}
use Rattle.webs.proofs.Totals.{going_start, going_next, going_over, going_end}
use Rattle.webs.proofs.steps.all_families.Goals as goal

pub loop-k-init : goal.loop-k-init
loop-k-init g c = (omega arith, going_start _ _ _ _ _ _ _ _ _ c.args.chained.now.known _ _ _ c.requires.known, refl, refl, refl)

pub returns-in_err-total : goal.returns-in_err-total
returns-in_err-total g c = rw c.from_residual.ensures (going_over _ _ _ _ _ _ _ _ _ c.args.chained.now.known _ _ _ _ _ _ c.loop-k.invariant.1 c.loop-k-test.true _ refl _ _ _ _ c.in_err-total.was c.family.ensures)

pub loop-k-preserved : goal.loop-k-preserved
loop-k-preserved g c = (omega (arith, c.loop-k-test.true), going_next _ _ _ _ _ _ _ _ _ c.args.chained.now.known _ _ _ _ _ _ c.loop-k.invariant.1 c.loop-k-test.true _ refl _ _ _ _ _ c.in_ok-total.was c.family.ensures, c.family.auto.space ∙ c.loop-k.invariant.2, c.family.auto.numbers ∙ c.loop-k.invariant.3, c.family.auto.marks ∙ c.loop-k.invariant.4)

pub returns : goal.returns
returns g c = going_end _ _ _ _ _ _ _ _ _ c.args.chained.now.known _ _ _ _ _ _ c.loop-k.invariant.1 c.loop-k-test.false
