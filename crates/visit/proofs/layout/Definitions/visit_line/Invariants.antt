-- `visit::layout::Definitions::visit_line` meets its contract. The invariant: the first k words are visited. Assumes nothing.
use mathlib.Core.Path.{◌≡◌}
use lib.ListN.{length}
use Rattle.visit.proofs.StepLaws.{Visiting}
use Rattle.visit.proofs.layout.Definitions.visit_line.Given as goal

abbrev pub invariant-loop-k : goal.invariant-loop-k
invariant-loop-k l = let m = l.self.layout in (length l.space ≡ length l.initial.space) × Visiting m.n m.r m.w l.i l.k l.self.nums.now l.initial.space l.space l.changed
