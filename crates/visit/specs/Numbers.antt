-- The numbers of a family's definitions: `nums` has for each line the number of its definition, 0 where it does not define the family.
--   defining_lines n nums    the lines that define, in order
--   line_of n nums b         the line of definition number b; 0 is the entry
--   Numbered n w nums        definitions are numbered 1, 2, .. in the order of the lines, and a row of w words has a bit for each
--   lines_of n families f    the lines from 1 on whose family is f
--   Numbering, Counted       what `number_line` and `number` do
-- Assumes nothing.
use Rattle.std.specs.Prelude.{ℕ, ◌+◌, ◌-◌, ◌*◌, ◌<◌, ◌≤◌, ◌≡◌, ◌≢◌, cond, not, List, ◌∷◌, eqb, length, get_or}
use Rattle.definitions.specs.Lists.{filter, range}

abbrev pub defining_lines : ℕ → List ℕ → List ℕ
defining_lines n nums = filter (λ i. not (eqb (get_or nums i 0) 0)) (range 1 (n - 1))

abbrev pub line_of : ℕ → List ℕ → ℕ → ℕ
line_of n nums b = get_or (0 ∷ defining_lines n nums) b 0

pub record Numbered (n w : ℕ) (nums : List ℕ) : Type 0 where
  pub lengths : n ≤ length nums
  pub entry : get_or nums 0 0 ≡ 0
  pub few : length (defining_lines n nums) < w * 64
  pub number : (i : ℕ) → 0 < i → i < n → get_or nums i 0 ≢ 0 → (get_or nums i 0 ≤ length (defining_lines n nums)) × (line_of n nums (get_or nums i 0) ≡ i)

abbrev pub lines_of : ℕ → List ℕ → ℕ → List ℕ
lines_of n families f = filter (λ i. eqb (get_or families i 0) f) (range 1 (n - 1))

-- the lines below i are numbered, up to c
pub record Numbering (families : List ℕ) (f : ℕ) (nums : List ℕ) (i c : ℕ) : Type 0 where
  pub entry : get_or nums 0 0 ≡ 0
  pub few : c < i
  pub count : c ≡ length (lines_of i families f)
  pub each : (j : ℕ) → 0 < j → j < i → get_or nums j 0 ≡ cond (eqb (get_or families j 0) f) (length (lines_of j families f) + 1) 0

pub record Counted (n : ℕ) (families : List ℕ) (f : ℕ) (nums : List ℕ) (c : ℕ) : Type 0 where
  pub lines : defining_lines n nums ≡ lines_of n families f
  pub count : c ≡ length (lines_of n families f)
  pub below : c < n
  pub numbered : (w : ℕ) → c < w * 64 → Numbered n w nums
