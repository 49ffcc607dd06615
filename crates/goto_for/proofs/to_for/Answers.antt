-- `goto_for::to_for` meets its contract. By the answers of the two searches.
-- Assumes nothing.
use Rattle.loops.proofs.ForRules.{end_inside, place_calls}
use Rattle.goto_for.proofs.ForRules.{for_answers, place_inside}
use Prim.Native.Nat.{◌+◌}
use borrow.Author.Rules.{rules}
use Rattle.goto_for.proofs.to_for.Goals as goal

pub for_place-requires : goal.for_place-requires
for_place-requires c = let p = c.requires.w_lt_n in let i = place_calls _ _ _ _ _ _ p.0 p.1 c.first_end.ensures c.in-Some.is in (i.0, i.1, p.2, i.2)

pub make_for-requires : goal.make_for-requires
make_for-requires c = let a = c.args in let i = end_inside _ a.plan.now _ (a.w + 1) _ _ c.requires.w_lt_n.1 c.first_end.ensures c.in-Some.is in let p = place_inside _ _ _ _ _ _ c.for_place.ensures c.in-Some-for_place.is in (p.0, p.1, i.1, c.requires.w_lt_n.1)

pub returns-then-w-eq0 : goal.returns-then-w-eq0
returns-then-w-eq0 c = search (for_answers, rules)

pub returns-in_default-for_place : goal.returns-in_default-for_place
returns-in_default-for_place c = search (for_answers, rules)

pub returns : goal.returns
returns c = search (for_answers, rules)
