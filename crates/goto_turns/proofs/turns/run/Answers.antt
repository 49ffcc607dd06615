use Rattle.goto_turns.proofs.Passing.{running_start, running_goes, running_overflows, emitted_overflows, running_ends, emitted_ends}
use native.Mathlib.Omega.{arith}
use Prim.Native.Nat.{◌≤◌}
use lib.ListN.{length}
use Rattle.goto_turns.proofs.turns.run.Goals as goal

pub start-requires : goal.start-requires
start-requires c = let p = c.requires in (p.lines_len_bound.1, p.lines_len_bound.0)

pub loop-h-init : goal.loop-h-init
loop-h-init c = running_start _ _ _ _ c.requires.lines_len_bound.0 c.start.ensures

pub overflow_add-h : goal.overflow_add-h
overflow_add-h c = omega (arith, c.loop-h.invariant.upto)

pub goto_turn-requires : goal.goto_turn-requires
goto_turn-requires c = let r = c.loop-h.invariant in let p = c.requires in record { h_lt_n = (omega (arith, c.loop-h-test.true), omega (arith, r.fewer, p.lines_len_bound.0), omega (arith, r.size, r.fewer, p.lines_len_bound.1, c.start.auto.plan), p.lines_len_bound.2); ahead = r.ahead; marked = p.marked }

pub returns-in_err-n : goal.returns-in_err-n
returns-in_err-n c =
    let room : length c.args.code.now.lines.now ≤ length c.start.new.plan = omega (arith, c.requires.lines_len_bound.1, c.start.auto.plan) in
    let failed = c.from_residual.ensures.0 in
    record {
      result_after = running_overflows _ _ _ _ _ _ _ c.loop-h.invariant room c.loop-h-test.true _ _ c.goto_turn.ensures _ c.in_err-n.was _ failed;
      emitted = emitted_overflows _ _ _ _ _ _ _ c.loop-h.invariant room c.loop-h-test.true _ _ c.goto_turn.ensures _ failed;
    }

pub overflow_add-h-in-loop-h : goal.overflow_add-h-in-loop-h
overflow_add-h-in-loop-h c = omega (arith, c.loop-h.invariant.upto, c.requires.lines_len_bound.0)

pub loop-h-smaller : goal.loop-h-smaller
loop-h-smaller c = omega (arith, c.loop-h.invariant.fewer, c.loop-h-test.true)

pub loop-h-preserved : goal.loop-h-preserved
loop-h-preserved c = running_goes _ _ _ _ _ _ _ c.loop-h.invariant (omega (arith, c.requires.lines_len_bound.1, c.start.auto.plan)) c.loop-h-test.true _ _ c.goto_turn.ensures _ c.in_ok-n.was c.goto_turn.auto.plan

pub returns : goal.returns
returns c = let r = c.loop-h.invariant in record { result_after = running_ends _ _ _ _ _ _ _ r (omega (arith, c.requires.lines_len_bound.1, c.start.auto.plan)) c.loop-h-test.false; emitted = emitted_ends _ _ _ _ _ _ _ r (omega (arith, c.requires.lines_len_bound.1, c.start.auto.plan)) }
