use native.Mathlib.Omega.{arith}
use Rattle.std.proofs.Common.{◌≤◌, length, ◌-◌}
use Rattle.json_strings.proofs.StringRules.{going_start, characters_quote, characters_past, plain_full, plain_next, characters_bad, characters_full, characters_less, characters_next}
use Rattle.json_strings.proofs.strings.characters.Goals as goal

pub loop-c-init : goal.loop-c-init
loop-c-init c = going_start _ _ _ c.requires

pub returns-then-c-eq34-clause-result_after : goal.returns-then-c-eq34-clause-result_after
returns-then-c-eq34-clause-result_after c = characters_quote _ _ _ _ _ _ c.loop-c.invariant _ _ c.in-Some.ensures.cases.0 c.if-c-eq34.true

pub returns-then-text-to-clause-result_after : goal.returns-then-text-to-clause-result_after
returns-then-text-to-clause-result_after c = plain_full _ _ _ _ _ _ c.loop-c.invariant _ _ c.in-Some.ensures.cases.0 c.if-c-eq34.false c.is_plain.result c.is_plain.ensures c.if-is_plain.true c.if-text-to.true

pub loop-c-preserved-then-is_plain : goal.loop-c-preserved-then-is_plain
loop-c-preserved-then-is_plain c = plain_next _ _ _ _ _ _ c.loop-c.invariant _ _ c.in-Some.ensures.cases.0 c.if-c-eq34.false _ c.is_plain.ensures c.if-is_plain.true (omega arith)

pub returns-in_err-p-clause-result_after : goal.returns-in_err-p-clause-result_after
returns-in_err-p-clause-result_after c = rw c.from_residual.ensures (characters_bad _ _ _ _ _ _ c.loop-c.invariant _ _ c.in-Some.ensures.cases.0 c.if-c-eq34.false c.in_err-p.ensures)

pub returns-then-text-to-2-clause-result_after : goal.returns-then-text-to-2-clause-result_after
returns-then-text-to-2-clause-result_after c = characters_full _ _ _ _ _ _ c.loop-c.invariant _ _ c.in-Some.ensures.cases.0 c.if-c-eq34.false _ _ c.in_ok-p.ensures (rw c.as_slice-bytes.ensures at c.if-text-to-2.true)

pub loop-c-smaller : goal.loop-c-smaller
loop-c-smaller c = characters_less _ _ _ _ _ _ c.loop-c.invariant _ _ c.in-Some.ensures.cases.0 c.if-c-eq34.false _ _ c.in_ok-p.ensures

pub loop-c-preserved : goal.loop-c-preserved
loop-c-preserved c =
    let room : length c.as_slice-bytes.result.now ≤ length c.loop-c.text - c.loop-c.to = omega arith in
    let told = rw (← c.as_slice-bytes.ensures) at c.in_ok-p.ensures in
    let stored = rw (← c.as_slice-bytes.ensures) at c.put.ensures in
    characters_next _ _ _ _ _ _ c.loop-c.invariant _ _ c.in-Some.ensures.cases.0 c.if-c-eq34.false c.as_slice-bytes.result.now _ told _ room stored

pub returns-clause-result_after : goal.returns-clause-result_after
returns-clause-result_after c = characters_past _ _ _ _ _ _ c.loop-c.invariant c.in_default.ensures.cases
