-- `sweep::solve` meets its contract. The invariant: `count` sweeps are done, each of which changed something. Assumes nothing.
use mathlib.Core.Path.{◌≡◌}
use lib.ListN.{length}
use Rattle.sweep.proofs.Counting.{Solving}
use Rattle.sweep.proofs.solve.Given as goal

abbrev pub invariant-loop-count : goal.invariant-loop-count
invariant-loop-count l = let m = l.defs.layout in (length l.space ≡ length l.initial.space) × Solving m.n m.r m.w l.defs.nums.now l.initial.space l.space l.count
