use Prim.Native.Nat.{◌-◌}
use mathlib.Core.Path.{ap, ◌∙◌}
use native.Mathlib.Omega.{arith}
use lib.ListN.{take}
use Rattle.plan.proofs.Loops.{both_up}
use Rattle.plan.proofs.remove_two.Goals as goal

pub returns : goal.returns
returns c =
    ap (take (c.args.n - 2)) c.copy_within-2.ensures.after ∙ both_up c.args.i c.args.w c.args.n c.args.plan.now c.copy_within.new.self (omega arith) (omega arith) (omega arith) c.copy_within.ensures.after
