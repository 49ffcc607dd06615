use mathlib.Core.Bool.{false≢true}
use Rattle.visit.proofs.LayoutLaws.{kept_both}
use Rattle.sweep.proofs.Counting.{solve_next, solve_done, solve_over, agree_still, first_listed, first_turned, first_done, first_over, first_kept}
use borrow.Author.Rules.{rules}
use Rattle.sweep.proofs.solve.Goals as goal

pub returns-then-budget-eq0 : goal.returns-then-budget-eq0
returns-then-budget-eq0 c = first_over _ _ _ _ _ _ _ c.args.defs.now.layout.wide c.start.ensures c.if-budget-eq0.true

pub sweep-requires : goal.sweep-requires
sweep-requires c = record { fits = (search rules, kept_both _ _ _ _ _ c.args.defs.now.layout.wide c.start.ensures.kept c.requires.1); listed = (first_listed _ _ _ _ _ _ c.start.ensures, λ e. c.start.ensures.all) }

pub returns-then-not-sweep : goal.returns-then-not-sweep
returns-then-not-sweep c = let d = c.args.defs.now in first_done _ _ _ _ _ _ _ _ _ d.layout.lines d.layout.wide d.numbered c.start.ensures c.sweep.ensures c.if-not-sweep.true c.if-budget-eq0.false

pub loop-count-init : goal.loop-count-init
loop-count-init c = let d = c.args.defs.now in
    (search rules, first_turned _ _ _ _ _ _ _ _ _ d.layout.lines d.layout.wide d.numbered c.start.ensures c.sweep.ensures c.if-not-sweep.false c.turn.ensures)

pub sweep-requires-in-loop-count : goal.sweep-requires-in-loop-count
sweep-requires-in-loop-count c = let kept = first_kept _ _ _ _ _ _ _ _ _ c.start.ensures c.sweep.ensures c.turn.ensures in
    record { fits = (search rules, agree_still _ _ _ _ _ _ _ _ c.args.defs.now.layout.wide kept c.loop-count.invariant.1 c.requires.1); listed = (search rules, λ e. absurd (false≢true e)) }

pub loop-count-preserved : goal.loop-count-preserved
loop-count-preserved c = let d = c.args.defs.now in
    (search rules, solve_next _ _ _ _ _ _ _ _ _ d.layout.lines d.layout.wide d.numbered c.loop-count.invariant.1 c.sweep-in-loop-count.ensures _ c.if-not-sweep-2.false c.turn-in-loop-count.ensures)

pub returns-then-not-sweep-2 : goal.returns-then-not-sweep-2
returns-then-not-sweep-2 c = search (solve_done, first_kept, rules)

pub returns : goal.returns
returns c = search (solve_over, first_kept, rules)
