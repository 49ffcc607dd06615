-- `loops::for_loops::to_for` meets its contract. By the answers of the two searches.
-- Assumes nothing.
use Rattle.loops.proofs.ForRules.{for_answers, for_done, end_inside, place_calls, place_inside}
use Prim.Native.Nat.{◌+◌}
use borrow.Author.Rules.{rules}
use Rattle.loops.proofs.for_loops.to_for.Goals as goal

pub returns-then-w-eq0 : goal.returns-then-w-eq0
returns-then-w-eq0 c = search (for_answers, rules)

pub for_place-requires : goal.for_place-requires
for_place-requires c = let p = c.requires in let i = place_calls _ _ _ _ _ _ p.w_lt_n.0 p.w_lt_n.1 c.first_end.ensures c.in-Some.is in record { w_in_bounds = (i.0, i.1, p.w_lt_n.2, i.2) }

pub returns-in_default-for_place : goal.returns-in_default-for_place
returns-in_default-for_place c = search (for_answers, rules)

pub make_for-requires : goal.make_for-requires
make_for-requires c = let a = c.args in let i = end_inside _ a.plan.now _ (a.w + 1) _ _ c.requires.w_lt_n.1 c.first_end.ensures c.in-Some.is in let p = place_inside _ _ _ _ _ _ c.for_place.ensures c.in-Some-for_place.is in (p.0, p.1, i.1, c.requires.w_lt_n.1)

pub returns : goal.returns
returns c = let p = c.requires in for_done _ _ _ _ _ _ p.w_lt_n.0 p.w_lt_n.1 p.w_value.0 p.w_value.1 c.if-w-eq0.false _ c.indent.ensures.0 _ c.first_end.ensures _ c.in-Some.is _ c.for_place.ensures _ c.in-Some-for_place.is _ c.make_for.ensures
