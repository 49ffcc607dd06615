use native.Mathlib.Omega.{arith}
use Rattle.family.proofs.FamilyNames.{named_here, named_next, named_nowhere}
use Rattle.family.proofs.row_named.Goals as goal

pub loop-i-init : goal.loop-i-init
loop-i-init c = (omega arith, λ j h. absurd (omega arith))

pub returns-then-is_row : goal.returns-then-is_row
returns-then-is_row c = named_here _ _ _ c.is_row.ensures (omega arith) c.if-is_row.true

pub loop-i-preserved : goal.loop-i-preserved
loop-i-preserved c = (omega arith, named_next _ _ _ c.is_row.ensures c.loop-i.invariant.1 c.if-is_row.false)

pub returns : goal.returns
returns c = named_nowhere _ _ c.loop-i.invariant.1 (omega arith)
