use Prim.Native.Nat.{◌-◌}
use mathlib.Core.Path.{ap, ◌∙◌}
use native.Mathlib.Omega.{arith}
use lib.ListN.{take}
use Rattle.plan.proofs.Loops.{moved_up}
use Rattle.plan.proofs.remove.Goals as goal

pub returns : goal.returns
returns c = ap (take (c.args.n - 1)) c.copy_within.ensures.after ∙ moved_up c.args.i c.args.n c.args.plan.now (omega arith) (omega arith)
