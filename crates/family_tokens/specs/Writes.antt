-- What one family's tokens are given.
--   Writes l t x k ds own read ns₀ ns ms₀ ms    its numbers are written by the words own and read of each line, and its definitions are marked
-- Assumes nothing.
use Rattle.std.specs.Prelude.{ℕ, ◌≡◌, List, length}
use Rattle.definitions.specs.Lists.{up_to}
use Rattle.walks.specs.Lines.{Written, lines_marked}

pub record Writes (l t x : List ℕ) (k : ℕ) (ds own read ns₀ ns ms₀ ms : List ℕ) : Type 0 where
  pub numbers : Written l t x k ds own read ns₀ ns
  pub marks : ms ≡ lines_marked l k ds ms₀ (up_to (length l))
