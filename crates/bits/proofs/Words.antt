-- Bit k of a word.
--   zero_bit, or_bit, shr_bit, one_bit    the bits of 0, of a | b, of a word shifted down, of a power of two
--   all_bits                              the bits of the greatest word
--   above_bit                             a word below 2 ^ k has no bit k
--   word_other                            two words that differ do so in some bit
--   low_none, low_there                   the lowest set bit
--   keep_low                              a word shifted up and down again keeps its bits 0 to k
-- Assumes nothing.
use Prim.Native.Nat.{ℕ, zero, suc, ◌+◌, ◌-◌, ◌*◌, ◌/◌, ◌%◌, ◌^◌, ◌<◌}
use mathlib.Core.Path.{◌≡◌, refl, sym, ap, ◌∙◌, subst}
use mathlib.Core.Logic.{◌≢◌, ◌⊎◌, inl, inr}
use mathlib.Core.Bool.{true, false, ◌&&◌, ◌||◌, false≢true}
use native.Mathlib.Omega.{arith}
use native.Mathlib.Decide.{dec_lt, ℕ_discrete}
use native.Mathlib.Nat.{pow-suc, pow-succ', div-div-eq-div-mul, div-one, mod-lt, zero-lt-suc, div-eq_of_lt, div-lt_iff_lt-mul, lt_of_lt_of_le, mul-mod_left, mul-div_cancel}
use lib.Dec.{eqb, eqb-zero-suc, eqb-suc-zero, eqb-suc-suc, leb}
use lib.Pow.{pow_pos, pow_mono, shr-shr, shl-shr, field, mod-mod-pow}
use lib.Bits.{bit_or, or_shr, or_mod}
use lib.Count.{count_trailing_zeros, under}
use borrow.Author.Tests.{le-leb, lt-leb}
use Rattle.bits.specs.Rows.{word_bit}

pub zero_bit : (k : ℕ) → word_bit 0 k ≡ false
unfolding word_bit
zero_bit k = rw (div-eq_of_lt (pow_pos k))

digit : (a : ℕ) → (a % 2 ≡ 0) ⊎ (a % 2 ≡ 1)
digit a = elim (dec_lt (a % 2) 1) [ yes h ↦ inl (omega arith) | no h ↦ inr (omega arith) ]

or_digit : (a b : ℕ) → eqb (bit_or a b % 2) 1 ≡ (eqb (a % 2) 1 || eqb (b % 2) 1)
or_digit a b = elim (digit a) [
  | inl p ↦ elim (digit b) [ inl q ↦ rw (or_mod a b 1, p, q) | inr q ↦ rw (or_mod a b 1, p, q) ]
  | inr p ↦ elim (digit b) [ inl q ↦ rw (or_mod a b 1, p, q) | inr q ↦ rw (or_mod a b 1, p, q) ]
]

pub or_bit : (a b k : ℕ) → word_bit (bit_or a b) k ≡ (word_bit a k || word_bit b k)
unfolding word_bit
or_bit a b k = rw (or_shr a b k) (or_digit (a / 2 ^ k) (b / 2 ^ k))

pub shr_bit : (w s k : ℕ) → word_bit (w / 2 ^ s) k ≡ word_bit w (s + k)
unfolding word_bit
shr_bit w s k = rw (shr-shr w s k)

pub above_bit : (w k : ℕ) → w < 2 ^ k → word_bit w k ≡ false
unfolding word_bit
above_bit w k h = rw (div-eq_of_lt h)

low_bit : (w : ℕ) → word_bit w 0 ≡ eqb (w % 2) 1
unfolding word_bit
low_bit w = rw (div-one w)

half_bit : (w k : ℕ) → word_bit w (suc k) ≡ word_bit (w / 2) k
unfolding word_bit
half_bit w k = rw (pow-succ' 2 k, div-div-eq-div-mul w 2 (2 ^ k))

pub one_bit : (m k : ℕ) → word_bit (2 ^ m) k ≡ eqb k m
one_bit zero zero = low_bit 1
one_bit zero (suc k) = half_bit 1 k ∙ zero_bit k ∙ sym (eqb-suc-zero k)
one_bit (suc m) zero = low_bit (2 ^ suc m) ∙ rw (pow-suc 2 m, mul-mod_left (2 ^ m) 2) (sym (eqb-zero-suc m))
one_bit (suc m) (suc k) = half_bit (2 ^ suc m) k ∙ rw (pow-suc 2 m, mul-div_cancel (2 ^ m) (zero-lt-suc 1)) (one_bit m k) ∙ sym (eqb-suc-suc k m)

ones : (m k : ℕ) → k < m → word_bit (2 ^ m - 1) k ≡ true
ones zero k h = absurd (omega arith)
ones (suc m) zero h = low_bit (2 ^ suc m - 1) ∙ (let e : (2 ^ suc m - 1) % 2 ≡ 1 = rw (pow-suc 2 m) (omega (arith, pow_pos m)) in rw e)
ones (suc m) (suc k) h = half_bit (2 ^ suc m - 1) k ∙ (let e : (2 ^ suc m - 1) / 2 ≡ 2 ^ m - 1 = rw (pow-suc 2 m) (omega (arith, pow_pos m)) in rw e (ones m k (omega arith)))

pub all_bits : (k : ℕ) → k < 64 → word_bit 18446744073709551615 k ≡ true
all_bits k h = ones 64 k h

half_lt : (k w : ℕ) → w < 2 ^ suc k → w / 2 < 2 ^ k
half_lt k w h = (div-lt_iff_lt-mul (zero-lt-suc 1)).1 (subst (λ (x : ℕ). w < x) (pow-suc 2 k) h)

-- Words that differ

digit_eq : (a b : ℕ) → eqb (a % 2) 1 ≡ eqb (b % 2) 1 → a % 2 ≡ b % 2
digit_eq a b e = elim (digit a) [
  | inl p ↦ elim (digit b) [ inl q ↦ p ∙ sym q | inr q ↦ absurd (false≢true (rw (p, q) at e)) ]
  | inr p ↦ elim (digit b) [ inl q ↦ absurd (false≢true (sym (rw (p, q) at e))) | inr q ↦ p ∙ sym q ]
]

pub word_other : (m a b : ℕ) → a < 2 ^ m → b < 2 ^ m → a ≢ b → (k : ℕ) × (k < m) × (word_bit a k ≢ word_bit b k)
word_other zero a b ha hb h = absurd (h (omega arith))
word_other (suc m) a b ha hb h = elim (ℕ_discrete (a % 2) (b % 2)) [
  | yes q ↦ (let r = word_other m (a / 2) (b / 2) (half_lt m a ha) (half_lt m b hb) (λ p. h (omega arith)) in
      (suc r.0, omega (arith, r.1), λ e. r.2 (sym (half_bit a r.0) ∙ e ∙ half_bit b r.0)))
  | no q ↦ (0, omega arith, λ e. q (digit_eq a b (sym (low_bit a) ∙ e ∙ low_bit b)))
]

-- The lowest set bit, of a word that is not 0

pub low_none : (d w j : ℕ) → j < count_trailing_zeros d w → word_bit w j ≡ false
unfolding count_trailing_zeros
low_none zero w j h = absurd (omega arith)
low_none (suc d) w j h = go (w % 2) refl j h (low_none d (w / 2))
  where
    go : (r : ℕ) → w % 2 ≡ r → (j : ℕ) → j < under r (count_trailing_zeros d (w / 2)) → ((j : ℕ) → j < count_trailing_zeros d (w / 2) → word_bit (w / 2) j ≡ false) → word_bit w j ≡ false
    go zero e zero h ih = low_bit w ∙ rw e
    go zero e (suc j) h ih = half_bit w j ∙ ih j (omega arith)
    go (suc r) e j h ih = absurd (omega arith)

pub low_there : (d w : ℕ) → 0 < w → w < 2 ^ d → word_bit w (count_trailing_zeros d w) ≡ true
unfolding count_trailing_zeros
low_there zero w p h = absurd (omega arith)
low_there (suc d) w p h = go (w % 2) refl (λ q. low_there d (w / 2) q (half_lt d w h))
  where
    go : (r : ℕ) → w % 2 ≡ r → (0 < w / 2 → word_bit (w / 2) (count_trailing_zeros d (w / 2)) ≡ true) → word_bit w (under r (count_trailing_zeros d (w / 2))) ≡ true
    go zero e ih = half_bit w (count_trailing_zeros d (w / 2)) ∙ ih (omega arith)
    go (suc r) e ih = low_bit w ∙ (let q : w % 2 ≡ 1 = omega arith in rw q)

-- The low bits of a word

low_mod : (x m j : ℕ) → j < m → word_bit (x % 2 ^ m) j ≡ word_bit x j
unfolding word_bit
low_mod x m j h =
    let e : m ≡ (m - j - 1 + 1) + j = omega arith in
    ap (λ (z : ℕ). eqb (x % 2 ^ z / 2 ^ j % 2) 1) e ∙ ap (λ (z : ℕ). eqb (z % 2) 1) (field x (m - j - 1 + 1) j)
    ∙ ap (λ (z : ℕ). eqb z 1) (mod-mod-pow (x / 2 ^ j) (m - j - 1) 1)

mod_bit : (x k j : ℕ) → word_bit (x % 2 ^ (k + 1)) j ≡ (leb j k && word_bit x j)
mod_bit x k j = elim (dec_lt k j) [
  | yes h ↦ above_bit (x % 2 ^ (k + 1)) j (lt_of_lt_of_le (mod-lt x (pow_pos (k + 1))) (pow_mono {i = k + 1} (omega arith))) ∙ sym (rw (lt-leb j k h))
  | no h ↦ low_mod x (k + 1) j (omega arith) ∙ sym (rw (le-leb j k (omega arith)))
]

pub keep_low : (x k j : ℕ) → k < 64 → word_bit (x * 2 ^ (63 - k) % 18446744073709551616 / 2 ^ (63 - k)) j ≡ (leb j k && word_bit x j)
keep_low x k j h =
    let e : 64 ≡ (k + 1) + (63 - k) = omega arith in
    let q : x * 2 ^ (63 - k) % 2 ^ 64 / 2 ^ (63 - k) ≡ x % 2 ^ (k + 1) =
    ap (λ (z : ℕ). x * 2 ^ (63 - k) % 2 ^ z / 2 ^ (63 - k)) e ∙ field (x * 2 ^ (63 - k)) (k + 1) (63 - k) ∙ ap (λ (z : ℕ). z % 2 ^ (k + 1)) (shl-shr x (63 - k)) in
    ap (λ (z : ℕ). word_bit z j) q ∙ mod_bit x k j
