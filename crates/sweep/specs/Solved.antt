-- What the public functions of this crate do, by the sweeps of Rattle.definitions.specs.Sweeps.
--   answer budget c             how many sweeps there are, where the budget allows them
--   Holds n r w nums out l      the outgoing rows hold the sets out
--   Solved                      what `solve` does
--   Incoming                    what `incoming_row` does
-- Assumes nothing.
use Rattle.std.specs.Prelude.{if◌then◌else◌, Option, Some, None, ℕ, ◌+◌, ◌*◌, ◌<◌, ◌≤◌, ◌≡◌, List, [], leb, length, get_or}
use Rattle.definitions.specs.Lists.{member}
use Rattle.definitions.specs.Sweeps.{incoming, sweeps}
use Rattle.bits.specs.Rows.{bit, Away}
use Rattle.bits.specs.Edges.{preds_of}
use Rattle.visit.specs.Layout.{making, outs, Kept}
use Rattle.visit.specs.Numbers.{defining_lines, line_of, Numbered}

abbrev pub answer : ℕ → ℕ → Option ℕ
answer budget c = if leb c budget then Some c else None

pub record Holds (n r w : ℕ) (nums : List ℕ) (out : List (List ℕ)) (l : List ℕ) : Type 0 where
  pub rows : (i b : ℕ) → i < n → b ≤ length (defining_lines n nums) → outs n r w l b i ≡ member (line_of n nums b) (get_or out i [])

pub record Solved (n r w : ℕ) (nums : List ℕ) (budget : ℕ) (l₀ l : List ℕ) (a : Option ℕ) : Type 0 where
  pub answers : a ≡ answer budget (sweeps (preds_of n r l₀) (defining_lines n nums)).count
  pub holds : (sweeps (preds_of n r l₀) (defining_lines n nums)).count ≤ budget
      → Holds n r w nums (sweeps (preds_of n r l₀) (defining_lines n nums)).out l
  pub kept : Kept n r w l₀ l

pub record Incoming (n r w i : ℕ) (l₀ l : List ℕ) : Type 0 where
  pub row : (nums : List ℕ) (out : List (List ℕ)) → Numbered n w nums → Holds n r w nums out l₀ → (b : ℕ) → b ≤ length (defining_lines n nums)
      → bit l (making n r w * 64 + b) ≡ member (line_of n nums b) (incoming (preds_of n r l₀) (defining_lines n nums) out i)
  pub kept : (v : ℕ) → Away v (making n r w) w → get_or l v 0 ≡ get_or l₀ v 0
