use Prim.Native.Nat.{◌≤◌}
use mathlib.Core.Path.{refl}
use native.Mathlib.Omega.{arith}
use lib.ListN.{length-set}
use Rattle.sweep.proofs.Numbering.{number_start, number_end}
use borrow.Author.Rules.{rules}
use Rattle.sweep.proofs.number.Goals as goal

pub loop-i-init : goal.loop-i-init
loop-i-init c = (simp length-set (omega arith), refl, number_start _ _ c.args.nums.now (omega arith))

pub returns : goal.returns
returns c = let h : c.loop-i.i ≤ c.args.n = omega arith in search (number_end, rules)
