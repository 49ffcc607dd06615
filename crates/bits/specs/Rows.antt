-- A list of 64-bit words as one row of bits, and what the functions on rows of words do.
--   word_bit w k            bit k of the word w
--   bit l a                 bit a of the words l: bit a % 64 of word a / 64
--   Away v w i              word v is none of the words w, w + 1, .., i of them
--   Filled l₀ l w i f       l is l₀ with the bits f in the words w, w + 1, .., i of them
--   Zero l w i              the words w, w + 1, .., i of them, are 0
--   WithBit l₀ l a          l is l₀ with bit a set
--   joined, joined_low      the bits of two rows together; of the second only those up to k
--   copied                  the bits of one row
--   Put l₀ l w x t          what `put` does
--   Differs l w i f t       t says whether the row of i words at w differs from the bits f
--   First l a e q           q is the first set bit from a on, below e; or e
-- Assumes nothing.
use Rattle.std.specs.Prelude.{ℕ, ◌+◌, ◌*◌, ◌/◌, ◌%◌, ◌^◌, ◌<◌, ◌≤◌, ◌≡◌, ◌≢◌, Bool, true, false, ◌&&◌, ◌||◌, List, eqb, leb, get_or, set}

unfoldable pub word_bit : ℕ → ℕ → Bool
word_bit w k = eqb (w / 2 ^ k % 2) 1

unfoldable pub bit : List ℕ → ℕ → Bool
bit l a = word_bit (get_or l (a / 64) 0) (a % 64)

abbrev pub Away : ℕ → ℕ → ℕ → Type 0
Away v w i = w ≤ v → v < w + i → ⊥

pub record Filled (l₀ l : List ℕ) (w i : ℕ) (f : ℕ → Bool) : Type 0 where
  pub inside : (k : ℕ) → k < i * 64 → bit l (w * 64 + k) ≡ f k
  pub outside : (v : ℕ) → Away v w i → get_or l v 0 ≡ get_or l₀ v 0

abbrev pub Zero : List ℕ → ℕ → ℕ → Type 0
Zero l w i = (v : ℕ) → w ≤ v → v < w + i → get_or l v 0 ≡ 0

pub record WithBit (l₀ l : List ℕ) (a : ℕ) : Type 0 where
  pub bits : (b : ℕ) → bit l b ≡ (bit l₀ b || eqb b a)
  pub words : (v : ℕ) → v ≢ a / 64 → get_or l v 0 ≡ get_or l₀ v 0

-- of the rows at w and u of the words l
abbrev pub joined : List ℕ → ℕ → ℕ → ℕ → Bool
joined l w u k = bit l (w * 64 + k) || bit l (u * 64 + k)

abbrev pub joined_low : List ℕ → ℕ → ℕ → ℕ → ℕ → Bool
joined_low l w u k j = bit l (w * 64 + j) || (leb j k && bit l (u * 64 + j))

abbrev pub copied : List ℕ → ℕ → ℕ → Bool
copied l u k = bit l (u * 64 + k)

-- l is l₀ with the word x at w, and t says whether that is a change
pub record Put (l₀ l : List ℕ) (w x : ℕ) (t : Bool) : Type 0 where
  pub word : l ≡ set l₀ w x
  pub same : t ≡ false → get_or l₀ w 0 ≡ x
  pub other : t ≡ true → (k : ℕ) × (k < 64) × (word_bit (get_or l₀ w 0) k ≢ word_bit x k)

pub record Differs (l : List ℕ) (w i : ℕ) (f : ℕ → Bool) (t : Bool) : Type 0 where
  pub same : t ≡ false → (k : ℕ) → k < i * 64 → bit l (w * 64 + k) ≡ f k
  pub other : t ≡ true → (k : ℕ) × (k < i * 64) × (bit l (w * 64 + k) ≢ f k)

pub record First (l : List ℕ) (a e q : ℕ) : Type 0 where
  pub from : a ≤ q
  pub upto : q ≤ e
  pub none : (j : ℕ) → a ≤ j → j < q → bit l j ≡ false
  pub there : q < e → bit l q ≡ true
