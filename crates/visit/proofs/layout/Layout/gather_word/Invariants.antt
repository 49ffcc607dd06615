-- `visit::layout::Layout::gather_word` meets its contract. The invariant: the word so far, with what is left to join, is what all predecessors
-- have. Assumes nothing.
use Prim.Native.Nat.{◌-◌}
use Rattle.visit.proofs.StepLaws.{Gathering}
use Rattle.visit.proofs.layout.Layout.gather_word.Given as goal

abbrev pub invariant-loop-q : goal.invariant-loop-q
invariant-loop-q l = Gathering l.self.n l.self.r l.self.w l.i l.k l.space l.a l.e l.y l.q

abbrev pub decreases-loop-q : goal.decreases-loop-q
decreases-loop-q l = l.e - l.q
