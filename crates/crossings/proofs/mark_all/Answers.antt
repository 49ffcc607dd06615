-- `crossings::mark_all` meets its contract. Assumes nothing.
use Prim.Native.Nat.{ℕ}
use native.Mathlib.Omega.{arith}
use borrow.Author.Rules.{rules}
use lib.ListN.{length-replicate}
use Rattle.words.proofs.Zeros.{zeros}
use Rattle.crossings.proofs.mark_all.Goals as goal

pub new-labels-requires : goal.new-labels-requires
new-labels-requires g c = let h = length-replicate {A = ℕ} g.row.H 0 in
    let n = length-replicate {A = ℕ} g.row.N 0 in record { in_bounds = (omega arith, omega arith, omega arith); by_index = zeros g.row.H }

pub mark_lines-requires : goal.mark_lines-requires
mark_lines-requires g c = rw c.new-labels.ensures (search rules, search rules)
