-- Bytes that are at most a bound.
--   Bounded m k s    none of the first k bytes of s is greater than m
-- Assumes nothing.
use Rattle.std.specs.Prelude.{ℕ, ◌<◌, ◌≤◌, List, get_or}

pub record Bounded (m k : ℕ) (s : List ℕ) : Type 0 where
  pub at_most : (j : ℕ) → j < k → get_or s j 0 ≤ m
