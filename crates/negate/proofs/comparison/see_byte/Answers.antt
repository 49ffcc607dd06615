-- `negate::comparison::see_byte` meets its contract. A comparison is passed over as a whole, another byte by itself.
-- Assumes nothing.
use Rattle.negate.specs.Comparisons.{seen}
use native.Mathlib.Omega.{arith}
use Rattle.negate.proofs.Scanning.{byte_passed, byte_other, comparison_found, found_after, found_within}
use borrow.Author.Rules.{rules}
use Rattle.negate.proofs.comparison.see_byte.Goals as goal

pub returns-then-s-i-ne32-clause-r_value : goal.returns-then-s-i-ne32-clause-r_value
returns-then-s-i-ne32-clause-r_value c = search (byte_other, rules)

pub part-rest-requires : goal.part-rest-requires
part-rest-requires c = search (byte_passed, rules)

pub comparison_at-requires : goal.comparison_at-requires
comparison_at-requires c = search (byte_passed, rules)

pub overflow_add-r : goal.overflow_add-r
overflow_add-r c = search (byte_passed, rules)

pub width-requires : goal.width-requires
width-requires c = search (byte_passed, rules)

pub overflow_add-result-in-Some : goal.overflow_add-result-in-Some
overflow_add-result-in-Some c = let a = c.args in
    omega (arith, found_within a.s.now a.i c.requires.0 c.part-rest.result.now c.part-rest.ensures (seen a.r.now) (seen a.r.now) c.comparison_at.result c.comparison_at.ensures c.in-Some.which c.in-Some.is c.width.result c.width.ensures)

pub returns-in-Some : goal.returns-in-Some
returns-in-Some c = let a = c.args in
    let w = c.width.result in record { r_value = comparison_found a.s.now a.i c.requires.0 c.part-rest.result.now c.part-rest.ensures (seen a.r.now) c.comparison_at.result c.comparison_at.ensures c.in-Some.which c.in-Some.is _ w c.width.ensures; i_lt_next = (found_after a.s.now a.i c.requires.0 c.part-rest.result.now c.part-rest.ensures (seen a.r.now) (seen a.r.now) c.comparison_at.result c.comparison_at.ensures c.in-Some.which c.in-Some.is w c.width.ensures, found_within a.s.now a.i c.requires.0 c.part-rest.result.now c.part-rest.ensures (seen a.r.now) (seen a.r.now) c.comparison_at.result c.comparison_at.ensures c.in-Some.which c.in-Some.is w c.width.ensures, omega arith) }

pub see_logical-requires : goal.see_logical-requires
see_logical-requires c = search (byte_passed, rules)

pub bounds-s-i : goal.bounds-s-i
bounds-s-i c = search (byte_passed, rules)

pub see_bracket-requires-in-None : goal.see_bracket-requires-in-None
see_bracket-requires-in-None c = search (byte_passed, rules)

pub overflow_add-result-in-None : goal.overflow_add-result-in-None
overflow_add-result-in-None c = search (byte_passed, rules)

pub returns-in-None : goal.returns-in-None
returns-in-None c = search (byte_passed, rules)
