use native.Mathlib.Omega.{arith}
use Rattle.visit.proofs.StepLaws.{step_full}
use Rattle.sweep.proofs.Worklist.{work_start, work_next, work_end, work_agree}
use borrow.Author.Rules.{rules}
use Rattle.sweep.proofs.sweep.Goals as goal

pub loop-q-init : goal.loop-q-init
loop-q-init c = (search rules, work_start _ _ _ _ _ _ _ (omega arith) c.requires.listed.0 c.find_bit-q.ensures, search rules)

pub step_line-c-requires : goal.step_line-c-requires
step_line-c-requires c = (search rules, search rules, work_agree _ _ _ _ _ _ _ _ _ _ c.args.defs.now.layout.wide c.loop-q.invariant.1 c.requires.fits.1, c.loop-q.invariant.2)

pub loop-q-preserved : goal.loop-q-preserved
loop-q-preserved c = (search rules, work_next _ _ _ _ _ _ _ _ _ _ _ _ _ (omega arith) c.args.defs.now.layout.wide c.requires.fits.1 c.loop-q.invariant.1 c.loop-q-test.true c.step_line-c.ensures (search rules) c.find_bit-q-in-loop-q.ensures, λ e. step_full _ _ _ _ _ _ _ _ c.step_line-c.ensures (c.loop-q.invariant.2 e))

pub returns : goal.returns
returns c = search (work_end, rules)
