use Rattle.std.specs.Prelude.{Ok}
use mathlib.Core.Path.{ap, ◌∙◌}
use Rattle.loops.proofs.Passing.{running_start, running_goes, running_stops, running_overflows, running_ends, emitted_stops, emitted_overflows, emitted_ends}
use native.Mathlib.Omega.{arith}
use Prim.Native.Nat.{◌≤◌}
use lib.ListN.{length}
use Rattle.loops.proofs.turns.plan_loops.Goals as goal

pub start-requires : goal.start-requires
start-requires c = let p = c.requires in (p.lines_len_bound.1, p.lines_len_bound.0)

pub loop-i-init : goal.loop-i-init
loop-i-init c = running_start _ _ _ _ c.requires.lines_len_bound.0 c.start.ensures

pub overflow_add-i : goal.overflow_add-i
overflow_add-i c = omega (arith, c.loop-i.invariant.upto)

pub loop_turn-requires : goal.loop_turn-requires
loop_turn-requires c = let r = c.loop-i.invariant in let p = c.requires in record { i_bound = (c.loop-i-test.true, omega (arith, r.size, r.fewer, p.lines_len_bound.1, c.start.auto.plan), p.lines_len_bound.2); ready = r.ready }

pub returns-in_default : goal.returns-in_default
returns-in_default c =
    let r = c.loop-i.invariant in
    let room : length c.args.keywords.now.code.lines.now ≤ length c.start.new.plan = omega (arith, c.requires.lines_len_bound.1, c.start.auto.plan) in
    let stopped = c.in_ok-m.was ∙ ap Ok c.in_default.is in
    record {
      result_after = running_stops _ _ _ _ _ _ _ r room c.loop-i-test.true _ _ c.loop_turn.ensures stopped;
      emitted = emitted_stops _ _ _ _ _ _ _ r room c.loop-i-test.true _ _ c.loop_turn.ensures stopped;
    }

pub returns-in_err-m : goal.returns-in_err-m
returns-in_err-m c =
    let room : length c.args.keywords.now.code.lines.now ≤ length c.start.new.plan = omega (arith, c.requires.lines_len_bound.1, c.start.auto.plan) in
    let failed = c.from_residual.ensures.0 in
    record {
      result_after = running_overflows _ _ _ _ _ _ _ c.loop-i.invariant room c.loop-i-test.true _ _ c.loop_turn.ensures _ c.in_err-m.was _ failed;
      emitted = emitted_overflows _ _ _ _ _ _ _ c.loop-i.invariant room c.loop-i-test.true _ _ c.loop_turn.ensures _ failed;
    }

pub loop-i-smaller : goal.loop-i-smaller
loop-i-smaller c = omega (arith, c.loop-i.invariant.fewer)

pub loop-i-preserved : goal.loop-i-preserved
loop-i-preserved c = running_goes _ _ _ _ _ _ _ c.loop-i.invariant (omega (arith, c.requires.lines_len_bound.1, c.start.auto.plan)) c.loop-i-test.true _ _ c.loop_turn.ensures _ (c.in_ok-m.was ∙ ap Ok c.in-Some.is) c.loop_turn.auto.plan

pub returns : goal.returns
returns c = let r = c.loop-i.invariant in record { result_after = running_ends _ _ _ _ _ _ _ r (omega (arith, c.requires.lines_len_bound.1, c.start.auto.plan)) c.loop-i-test.false; emitted = emitted_ends _ _ _ _ _ _ _ r (omega (arith, c.requires.lines_len_bound.1, c.start.auto.plan)) }
