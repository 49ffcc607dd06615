-- The definitions that reach a line, by number, as the rows of crate sweep have them after its sweeps.
--   bits_from l a n           the numbers below n whose bit, counted from bit a of the words l, is set
--   Put s₀ s m b y k          s is s₀ with b at place m where y is true; k is the place behind
--   Reached                   what `reaching` does: the first m words of s are the set of line i, and the words l have its row
--   FirstReached              what `first_reaching` does: d is the first of that set, 0 where it is empty
--   Swept n r w nums l        the outgoing rows hold what the sweeps over the graph in l leave, for the definitions that nums numbers; both
--                             matrices of the graph say the same
--   reach_numbers n r nums l i    the numbers of the definitions that reach line i
--   linked n r nums l rep is  the representatives rep after the reads on the lines is
--   Links                     what `link_line` and `link_reads` do
--   Sized, Slices             the lent slices have room
--   FamilyReps                what `family_reps` does
--   ReadWeb                   what `read_web` does
-- Assumes nothing.
use Rattle.std.specs.Prelude.{ℕ, suc, ◌+◌, ◌*◌, ◌≤◌, ◌≡◌, Bool, cond, List, [], ◌∷◌, ◌++◌, length, get_or, take}
use Rattle.definitions.specs.Lists.{filter, fold, up_to, member, or_else, first}
use Rattle.definitions.specs.Sweeps.{incoming, sweeps}
use Rattle.definitions.specs.Recover.{link}
use Rattle.bits.specs.Rows.{bit}
use Rattle.bits.specs.Edges.{Agree, preds_of}
use Rattle.visit.specs.Layout.{making, Room}
use Rattle.visit.specs.Numbers.{defining_lines, line_of, Numbered}
use Rattle.sweep.specs.Solved.{Holds, Incoming}
use Rattle.recover.specs.Numbers.{Within, earlier, Ranked}

unfoldable pub bits_from : List ℕ → ℕ → ℕ → List ℕ
bits_from l a n = filter (λ b. bit l (a + b)) (up_to n)

pub record Put (s₀ s : List ℕ) (m b : ℕ) (y : Bool) (k : ℕ) : Type 0 where
  pub place : k ≡ m + cond y 1 0
  pub front : take k s ≡ take m s₀ ++ cond y (b ∷ []) []
  pub step : k ≤ m + 1

pub record Reached (n r w i nd : ℕ) (l₀ l s : List ℕ) (m : ℕ) : Type 0 where
  pub few : m ≤ nd
  pub set : take m s ≡ bits_from l (making n r w * 64) nd
  pub row : Incoming n r w i l₀ l

pub record FirstReached (n r w i nd : ℕ) (l₀ l : List ℕ) (d : ℕ) : Type 0 where
  pub is : d ≡ or_else (first (bits_from l (making n r w * 64) nd)) 0
  pub row : Incoming n r w i l₀ l

pub record Swept (n r w : ℕ) (nums l : List ℕ) : Type 0 where
  pub room : Room n r w l
  pub numbered : Numbered n w nums
  pub agree : Agree n r l
  pub holds : Holds n r w nums (sweeps (preds_of n r l) (defining_lines n nums)).out l

unfoldable pub reach_numbers : ℕ → ℕ → List ℕ → List ℕ → ℕ → List ℕ
reach_numbers n r nums l i =
    let defs = defining_lines n nums in
    filter (λ b. member (line_of n nums b) (incoming (preds_of n r l) defs (sweeps (preds_of n r l) defs).out i)) (up_to (suc (length defs)))

unfoldable pub linked : ℕ → ℕ → List ℕ → List ℕ → List ℕ → List ℕ → List ℕ
linked n r nums l rep is = fold (λ p i. link p (reach_numbers n r nums l i)) rep is

pub record Links (n r w : ℕ) (nums l₀ l rep₀ rep is : List ℕ) : Type 0 where
  pub swept : Swept n r w nums l
  pub preds : preds_of n r l ≡ preds_of n r l₀
  pub reps : rep ≡ linked n r nums l₀ rep₀ is

-- the lent slices fit the definitions
pub record Sized (n : ℕ) (nums rep set : List ℕ) : Type 0 where
  pub size : length rep ≡ suc (length (defining_lines n nums))
  pub room : length rep ≤ length set
  pub small : length rep ≤ 65536

pub record Slices (n : ℕ) (nums rep set marks : List ℕ) : Type 0 where
  pub sized : Sized n nums rep set
  pub within : Within (length marks) rep

-- v is the number of a read on line i, whose row the words l have
pub record ReadWeb (n r w i : ℕ) (nums l₀ l rep : List ℕ) (v : ℕ) : Type 0 where
  pub swept : Swept n r w nums l
  pub preds : preds_of n r l ≡ preds_of n r l₀
  pub number : v ≡ earlier rep (get_or rep (or_else (first (reach_numbers n r nums l₀ i)) 0) 0)

-- the representatives of one family after all its reads, and their ranks
pub record FamilyReps (n r w : ℕ) (nums l₀ l rep rank is : List ℕ) : Type 0 where
  pub swept : Swept n r w nums l
  pub preds : preds_of n r l ≡ preds_of n r l₀
  pub reps : rep ≡ linked n r nums l₀ (up_to (suc (length (defining_lines n nums)))) is
  pub ranked : Ranked rep rank
