-- The numbers of one family's definitions and reads, line by line.
--   own_number nums rep i          the number of the definition on line i, which nums numbers
--   read_number n r nums l rep i   the number of a read on line i
--   Below n is                     each of the lines is below n
--   Owned nums rep n own           own has the number of the definition on each of the first n lines
--   Reads                          what `number_reads` does
--   LineNumbers                    what is done of a family after its sweeps
--   SolvedLines                    what is done of a family whose definitions are numbered
--   FamilyLines                    what `family_lines` does
-- Assumes nothing.
use Rattle.std.specs.Prelude.{ℕ, suc, ◌+◌, ◌<◌, ◌≤◌, ◌≡◌, cond, List, length, get_or}
use Rattle.definitions.specs.Lists.{up_to, member, or_else, first}
use Rattle.definitions.specs.Sweeps.{sweeps}
use Rattle.bits.specs.Edges.{preds_of}
use Rattle.visit.specs.Numbers.{defining_lines, lines_of, Numbered}
use Rattle.sweep.specs.Solved.{answer}
use Rattle.std.specs.Prelude.{Option}
use Rattle.recover.specs.Numbers.{earlier}
use Rattle.recover.specs.Reaching.{Swept, reach_numbers, linked}

unfoldable pub own_number : List ℕ → List ℕ → ℕ → ℕ
own_number nums rep i = earlier rep (get_or rep (get_or nums i 0) 0)

unfoldable pub read_number : ℕ → ℕ → List ℕ → List ℕ → List ℕ → ℕ → ℕ
read_number n r nums l rep i = earlier rep (get_or rep (or_else (first (reach_numbers n r nums l i)) 0) 0)

pub record Below (n : ℕ) (is : List ℕ) : Type 0 where
  pub at : (j : ℕ) → j < length is → get_or is j 0 < n

pub record Owned (nums rep : List ℕ) (n : ℕ) (own : List ℕ) : Type 0 where
  pub at : (i : ℕ) → i < n → get_or own i 0 ≡ own_number nums rep i

-- the reads on the lines is have their numbers in `read`; l₀ are the words before
pub record Reads (n r w : ℕ) (nums l₀ l rep is read₀ read : List ℕ) : Type 0 where
  pub swept : Swept n r w nums l
  pub preds : preds_of n r l ≡ preds_of n r l₀
  pub at : (i : ℕ) → get_or read i 0 ≡ cond (member i is) (read_number n r nums l₀ rep i) (get_or read₀ i 0)

pub record LineNumbers (n r w : ℕ) (nums l₀ l is own read : List ℕ) : Type 0 where
  pub rep : List ℕ
  pub reps : rep ≡ linked n r nums l₀ (up_to (suc (length (defining_lines n nums)))) is
  pub owned : Owned nums rep n own
  pub at : (i : ℕ) → get_or read i 0 ≡ cond (member i is) (read_number n r nums l₀ rep i) 0
  pub swept : Swept n r w nums l
  pub preds : preds_of n r l ≡ preds_of n r l₀

-- the sweeps, and the numbers where the budget allows them
pub record SolvedLines (n r w : ℕ) (nums : List ℕ) (budget : ℕ) (l₀ l is own read : List ℕ) (a : Option ℕ) : Type 0 where
  pub answers : a ≡ answer budget (sweeps (preds_of n r l₀) (defining_lines n nums)).count
  pub done : (sweeps (preds_of n r l₀) (defining_lines n nums)).count ≤ budget → LineNumbers n r w nums l₀ l is own read

-- the same of family k, where ds has the place of the family that each line defines
pub record FamilyLines (n r k : ℕ) (ds : List ℕ) (budget : ℕ) (l₀ l is own read : List ℕ) (a : Option ℕ) : Type 0 where
  pub nums : List ℕ
  pub w : ℕ
  pub numbered : Numbered n w nums
  pub lines : defining_lines n nums ≡ lines_of n ds (k + 1)
  pub solved : SolvedLines n r w nums budget l₀ l is own read a
