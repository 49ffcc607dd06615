-- `visit::layout::Layout::coming_row` meets its contract. The invariant: the first k words are made. Assumes nothing.
use mathlib.Core.Path.{◌≡◌}
use lib.ListN.{length}
use Rattle.bits.specs.Rows.{Filled}
use Rattle.bits.specs.Edges.{preds_of}
use Rattle.visit.specs.Layout.{making, outs}
use Rattle.visit.specs.Steps.{coming}
use Rattle.visit.proofs.layout.Layout.coming_row.Given as goal

abbrev pub invariant-loop-k : goal.invariant-loop-k
invariant-loop-k l = let m = l.self in (length l.space ≡ length l.initial.space) × Filled l.initial.space l.space (making m.n m.r m.w) l.k (λ b. coming (preds_of m.n m.r l.initial.space) b (outs m.n m.r m.w l.initial.space b) l.i)
