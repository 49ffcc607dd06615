-- The listing that a pass was given, and the columns that its lines are read from.
--   Source S l t x    the lines of S have the tokens and indents of the columns l, t and x; their addresses may be any
-- Assumes nothing.
use Rattle.std.specs.Prelude.{ℕ, ◌%◌, ◌≡◌, List, length, get_or}
use Rattle.definitions.specs.Model.{Line, line}
use Rattle.definitions.specs.Columns.{listing}

pub record Source (S : List Line) (l t x : List ℕ) : Type 0 where
  pub size : length S ≡ length l
  pub indents : (i : ℕ) → (line S i).indent ≡ get_or l i 0 % 256
  pub tokens : (i : ℕ) → (line S i).tokens ≡ (line (listing l t x) i).tokens
