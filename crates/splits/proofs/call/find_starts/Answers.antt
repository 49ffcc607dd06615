-- `splits::call::find_starts` meets its contract. Assumes nothing.
use native.Mathlib.Omega.{arith}
use Rattle.words.proofs.Zeros.{zeros}
use Rattle.splits.proofs.call.find_starts.Goals as goal

pub find_starts_in-requires : goal.find_starts_in-requires
find_starts_in-requires c = let p = c.requires in record { lines_nonzero = (p.0, p.1, p.2, p.3, p.1, omega arith); by_index = zeros 1024 }
