-- `questions::are_kinds` meets its contract. Assumes nothing.
use Prim.Native.Nat.{◌-◌, ◌%◌}
use mathlib.Core.Path.{◌≡◌}
use mathlib.Core.Bool.{◌&&◌}
use lib.Dec.{leb}
use lib.ListN.{length, drop}
use Rattle.definitions.specs.Lists.{all}
use Rattle.questions.proofs.are_kinds.Given as goal

abbrev pub invariant-loop-k : goal.invariant-loop-k
invariant-loop-k l = all (λ w. leb (w % 256) 7) l.tokens ≡ (l.ok && all (λ w. leb (w % 256) 7) (drop l.k l.tokens))
