-- Rows of words: what one store does, and the steps of the loops of this crate.
--   bit_in_word, filled_off    a bit by its word; a bit that a filled row does not have is as it was
--   set_one                    a word with one bit set
--   fill-*                     a row filled so far: at first, by one word more, in the end
--   *-one                      the same of a row of one word
--   run_words, run_bits        a row of one word over and over
--   differ-*                   so for the comparison of a row with what is written over it
--   here, none_next, found     so for the search of a set bit
--   low_last                   the last word of the low bits of a row
-- Assumes nothing.
use Prim.Native.Nat.{ℕ, ◌+◌, ◌-◌, ◌*◌, ◌/◌, ◌%◌, ◌^◌, ◌<◌, ◌≤◌, min}
use mathlib.Core.Path.{◌≡◌, refl, sym, ap, ap₂, ◌∙◌}
use mathlib.Core.Logic.{inl, inr}
use mathlib.Core.Bool.{Bool, true, false, ◌&&◌, ◌||◌, or-false, true≢false}
use mathlib.Core.List.{List, ◌++◌}
use native.Mathlib.Omega.{arith}
use native.Mathlib.Decide.{dec_lt, ℕ_discrete}
use native.Mathlib.Nat.{one-mul, mod-eq_of_lt, lt_of_lt_of_le, lt_of_le_of_lt}
use lib.Dec.{eqb, leb, ltb}
use lib.ListN.{length, get_or, set, take, drop, replicate, length-take, length-drop, length-replicate, get_or-append}
use lib.Seq.{length-take-le, get_or-take, get_or-drop, get_or-set_same, get_or-set_other, set-get_or}
use lib.Pow.{pow-lt, pow_mono, shr_le}
use lib.Bits.{bit_or}
use lib.Count.{count_trailing_zeros}
use mir.Syntax.{w64}
use mir.Val.{Fits}
use borrow.Rule.Slice.PartMut.{put_mid}
use Rattle.std.proofs.lemmas.List.{get_or-replicate, get_or-append_right}
use borrow.Author.Tests.{eq-eqb, ne_eqb, ltb-true, le-leb, lt-leb}
use Rattle.theory.proofs.Bools.{clash, and_split, lt_or_ge}
use Rattle.bits.specs.Rows.{word_bit, bit, Away, Filled, WithBit, joined, joined_low, copied, Put, Differs, First}
use Rattle.bits.proofs.Words.{zero_bit, or_bit, shr_bit, one_bit, above_bit, word_other, low_none, low_there, keep_low}

pub bit_in_word : (l : List ℕ) (w k : ℕ) → k < 64 → bit l (w * 64 + k) ≡ word_bit (get_or l w 0) k
unfolding bit
bit_in_word l w k h = let p : (w * 64 + k) / 64 ≡ w = omega arith in let q : (w * 64 + k) % 64 ≡ k = omega arith in rw (p, q)

-- words that are equal have equal bits
pub same_bit : (l l' : List ℕ) (a : ℕ) → get_or l (a / 64) 0 ≡ get_or l' (a / 64) 0 → bit l a ≡ bit l' a
unfolding bit
same_bit l l' a e = rw e

pub filled_off : (l₀ l : List ℕ) (w i : ℕ) (f : ℕ → Bool) → Filled l₀ l w i f → (a : ℕ) → (w * 64 ≤ a → a < (w + i) * 64 → ⊥) → bit l a ≡ bit l₀ a
filled_off l₀ l w i f F a h = same_bit l l₀ a (F.outside (a / 64) (λ x y. h (omega arith) (omega arith)))

store_at : (l : List ℕ) (w v k : ℕ) → k < 64 → w < length l → bit (set l w v) (w * 64 + k) ≡ word_bit v k
store_at l w v k h q = bit_in_word (set l w v) w k h ∙ rw (get_or-set_same l w v 0 q)

-- One bit

with_bit : (l : List ℕ) (a : ℕ) → a / 64 < length l → WithBit l (set l (a / 64) (bit_or (get_or l (a / 64) 0) (2 ^ (a % 64)))) a
unfolding bit
with_bit l a h = record { bits = bits; words = λ v q. get_or-set_other l (a / 64) v (bit_or (get_or l (a / 64) 0) (2 ^ (a % 64))) 0 q }
  where
    same : (b : ℕ) → b / 64 ≡ a / 64 → Dec (b % 64 ≡ a % 64) → eqb (b % 64) (a % 64) ≡ eqb b a
    same b e (yes q) = eq-eqb (b % 64) (a % 64) q ∙ sym (eq-eqb b a (omega arith))
    same b e (no q) = ne_eqb (b % 64) (a % 64) q ∙ sym (ne_eqb b a (λ f. q (rw f)))

    bits : (b : ℕ) → bit (set l (a / 64) (bit_or (get_or l (a / 64) 0) (2 ^ (a % 64)))) b ≡ (bit l b || eqb b a)
    bits b = elim (ℕ_discrete (b / 64) (a / 64)) [
      | yes e ↦ rw (e, get_or-set_same l (a / 64) (bit_or (get_or l (a / 64) 0) (2 ^ (a % 64))) 0 h, or_bit, one_bit)
          (ap (λ (t : Bool). word_bit (get_or l (a / 64) 0) (b % 64) || t) (same b e (ℕ_discrete (b % 64) (a % 64))))
      | no e ↦ rw (get_or-set_other l (a / 64) (b / 64) (bit_or (get_or l (a / 64) 0) (2 ^ (a % 64))) 0 e, ne_eqb b a (λ q. e (rw q)))
          (sym (or-false (word_bit (get_or l (b / 64) 0) (b % 64))))
    ]

pub set_one : (l : List ℕ) (a : ℕ) → a / 64 < length l → WithBit l (set l (a / 64) (bit_or (get_or l (a / 64) 0) (1 * 2 ^ (a % 64) % 18446744073709551616))) a
set_one l a h = rw shifted (with_bit l a h)
  where
    shifted : 1 * 2 ^ (a % 64) % 18446744073709551616 ≡ 2 ^ (a % 64)
    shifted = rw (one-mul (2 ^ (a % 64))) (mod-eq_of_lt (pow-lt {j = 64} (omega arith)))

-- Rows, word by word

pub fill_none : (l : List ℕ) (w : ℕ) (f : ℕ → Bool) → Filled l l w 0 f
fill_none l w f = record { inside = λ k h. absurd (omega arith); outside = λ v h. refl }

pub fill_end : (l₀ l : List ℕ) (w i r : ℕ) (f : ℕ → Bool) → Filled l₀ l w i f → i ≤ r → r ≤ i → Filled l₀ l w r f
fill_end l₀ l w i r f F h g = let e : r ≡ i = omega arith in rw e F

pub fill_next : (l₀ l : List ℕ) (w i v : ℕ) (f : ℕ → Bool) → Filled l₀ l w i f → w + i < length l
    → ((k : ℕ) → k < 64 → word_bit v k ≡ f (i * 64 + k)) → Filled l₀ (set l (w + i) v) w (i + 1) f
fill_next l₀ l w i v f F h e = record {
  inside = ins;
  outside = λ u g. get_or-set_other l (w + i) u v 0 (λ q. g (omega arith) (omega arith)) ∙ F.outside u (λ p r. g p (omega arith));
}
  where
    ins : (k : ℕ) → k < (i + 1) * 64 → bit (set l (w + i) v) (w * 64 + k) ≡ f k
    ins k hk = elim (lt_or_ge k (i * 64)) [
      | inl q ↦ same_bit (set l (w + i) v) l (w * 64 + k) (get_or-set_other l (w + i) ((w * 64 + k) / 64) v 0 (λ z. omega arith)) ∙ F.inside k q
      | inr q ↦
          (let p : w * 64 + k ≡ (w + i) * 64 + (k - i * 64) = omega arith in
          let r : i * 64 + (k - i * 64) ≡ k = omega arith in
          ap (bit (set l (w + i) v)) p ∙ store_at l (w + i) v (k - i * 64) (omega arith) h ∙ e (k - i * 64) (omega arith) ∙ ap f r)
    ]

-- a word that has not been filled yet
word_left : (l₀ l : List ℕ) (w i u j k : ℕ) (f : ℕ → Bool) → Filled l₀ l w i f → k < 64 → Away (u + j) w i → word_bit (get_or l (u + j) 0) k ≡ bit l₀ (u * 64 + (j * 64 + k))
word_left l₀ l w i u j k f F h g =
    let p : (u + j) * 64 + k ≡ u * 64 + (j * 64 + k) = omega arith in
    ap (λ (x : ℕ). word_bit x k) (F.outside (u + j) g) ∙ sym (bit_in_word l₀ (u + j) k h) ∙ ap (bit l₀) p

module _ (l₀ l : List ℕ) (w u i r : ℕ) (hi : i < r) (el : length l ≡ length l₀) where
  pub fill_or : Filled l₀ l w i (joined l₀ w u) → u + r ≤ w → w + r ≤ length l₀
      → Filled l₀ (set l (w + i) (bit_or (get_or l (w + i) 0) (get_or l (u + i) 0))) w (i + 1) (joined l₀ w u)
  fill_or F hu h = fill_next l₀ l w i (bit_or (get_or l (w + i) 0) (get_or l (u + i) 0)) (joined l₀ w u) F (omega arith)
      (λ k hk. or_bit (get_or l (w + i) 0) (get_or l (u + i) 0) k ∙ ap₂ ◌||◌
      (word_left l₀ l w i w i k (joined l₀ w u) F hk (λ a b. omega arith))
      (word_left l₀ l w i u i k (joined l₀ w u) F hk (λ a b. omega arith)))

  pub fill_copy : Filled l₀ l w i (copied l₀ u) → w + r ≤ u → u + r ≤ length l₀ → Filled l₀ (set l (w + i) (get_or l (u + i) 0)) w (i + 1) (copied l₀ u)
  fill_copy F hu h = fill_next l₀ l w i (get_or l (u + i) 0) (copied l₀ u) F (omega arith)
      (λ k hk. word_left l₀ l w i u i k (copied l₀ u) F hk (λ a b. omega arith))

-- A row of which every word is x

module _ (l₀ ys : List ℕ) (w r x : ℕ) (h : w + r ≤ length l₀) (d : ys ≡ replicate (length (take (w + r - w) (drop w l₀))) x) where
  e : ys ≡ replicate r x
  e = let q : length (take (w + r - w) (drop w l₀)) ≡ r = simp (length-take, length-drop) (omega arith) in d ∙ rw q

  front : length (take w l₀) ≡ w
  front = length-take-le w l₀ (omega arith)

  many : length ys ≡ r
  many = rw e (length-replicate r x)

  pub run_words : (v : ℕ) → w ≤ v → v < w + r → get_or (put_mid w (w + r - w) l₀ ys) v 0 ≡ x
  run_words v a b =
      get_or-append_right (take w l₀) (ys ++ drop (w + r - w) (drop w l₀)) w v 0 front a
      ∙ get_or-append ys (drop (w + r - w) (drop w l₀)) 0 (v - w) (omega (arith, many))
      ∙ rw e (get_or-replicate r (v - w) x 0 (omega arith))

  others : (v : ℕ) → Away v w r → get_or (put_mid w (w + r - w) l₀ ys) v 0 ≡ get_or l₀ v 0
  others v g = elim (lt_or_ge v w) [
    | inl q ↦ get_or-append (take w l₀) (ys ++ drop (w + r - w) (drop w l₀)) 0 v (omega (arith, front)) ∙ get_or-take w l₀ v 0 q
    | inr q ↦ (let b : w + r ≤ v = elim (lt_or_ge v (w + r)) [ inl p ↦ absurd (g q p) | inr p ↦ p ] in
        let z : w + r - w ≡ r = omega arith in
        let y : w + (r + (v - w - r)) ≡ v = omega arith in
        get_or-append_right (take w l₀) (ys ++ drop (w + r - w) (drop w l₀)) w v 0 front q
        ∙ get_or-append_right ys (drop (w + r - w) (drop w l₀)) r (v - w) 0 many (omega arith)
        ∙ rw z (get_or-drop r (drop w l₀) (v - w - r) 0 ∙ get_or-drop w l₀ (r + (v - w - r)) 0 ∙ rw y))
  ]

  pub run_bits : (b : Bool) → ((k : ℕ) → k < 64 → word_bit x k ≡ b) → Filled l₀ (put_mid w (w + r - w) l₀ ys) w r (λ k. b)
  unfolding bit
  run_bits b f = record {
    inside = λ k q. rw (run_words ((w * 64 + k) / 64) (omega arith) (omega arith)) (f ((w * 64 + k) % 64) (omega arith));
    outside = others;
  }

-- A row of one word

module _ (l : List ℕ) (w r : ℕ) (one : r ≡ 1) (h : w + r ≤ length l) where
  fill_one : (v : ℕ) (f : ℕ → Bool) → ((k : ℕ) → k < 64 → word_bit v k ≡ f k) → Filled l (set l w v) w r f
  fill_one v f e = record {
    inside = λ k q. store_at l w v k (omega arith) (omega arith) ∙ e k (omega arith);
    outside = λ u q. get_or-set_other l w u v 0 (λ z. q (omega arith) (omega arith));
  }

  or_one : (u : ℕ) → Filled l (set l w (bit_or (get_or l w 0) (get_or l u 0))) w r (joined l w u)
  or_one u = fill_one (bit_or (get_or l w 0) (get_or l u 0)) (joined l w u)
      (λ k q. or_bit (get_or l w 0) (get_or l u 0) k ∙ ap₂ ◌||◌ (sym (bit_in_word l w k q)) (sym (bit_in_word l u k q)))

  pub or_put : (u x : ℕ) (l' : List ℕ) (t : Bool) → x ≡ bit_or (get_or l w 0) (get_or l u 0) → Put l l' w x t → Filled l l' w r (joined l w u)
  or_put u x l' t e P = rw (P.word, e) (or_one u)

pub low_last : (l₀ l : List ℕ) (w u k : ℕ) → Filled l₀ l w (k / 64) (joined l₀ w u) → u + (k / 64 + 1) ≤ w → w + (k / 64 + 1) ≤ length l
    → Filled l₀ (set l (w + k / 64) (bit_or (get_or l (w + k / 64) 0) (get_or l (u + k / 64) 0 * 2 ^ (63 - k % 64) % 18446744073709551616 / 2 ^ (63 - k % 64)))) w (k / 64 + 1) (joined_low l₀ w u k)
low_last l₀ l w u k F hu h =
    fill_next l₀ l w (k / 64) (bit_or (get_or l (w + k / 64) 0) (get_or l (u + k / 64) 0 * 2 ^ (63 - k % 64) % 18446744073709551616 / 2 ^ (63 - k % 64))) (joined_low l₀ w u k)
    (record { inside = λ j q. F.inside j q ∙ sym (ap (λ (t : Bool). bit l₀ (w * 64 + j) || (t && bit l₀ (u * 64 + j))) (le-leb j k (omega arith))); outside = F.outside })
    (omega arith)
    (λ j hj. or_bit (get_or l (w + k / 64) 0) (get_or l (u + k / 64) 0 * 2 ^ (63 - k % 64) % 18446744073709551616 / 2 ^ (63 - k % 64)) j ∙ ap₂ ◌||◌
    (word_left l₀ l w (k / 64) w (k / 64) j (joined l₀ w u) F hj (λ a b. omega arith))
    (keep_low (get_or l (u + k / 64) 0) (k % 64) j (omega arith) ∙ ap₂ ◌&&◌ (shift j) (word_left l₀ l w (k / 64) u (k / 64) j (joined l₀ w u) F hj (λ a b. omega arith))))
  where
    shift : (j : ℕ) → leb j (k % 64) ≡ leb (k / 64 * 64 + j) k
    shift j = elim (lt_or_ge (k % 64) j) [
      | inl q ↦ lt-leb j (k % 64) q ∙ sym (lt-leb (k / 64 * 64 + j) k (omega arith))
      | inr q ↦ le-leb j (k % 64) q ∙ sym (le-leb (k / 64 * 64 + j) k (omega arith))
    ]

-- A row overwritten word by word and compared with what it held

pub put_same : (l : List ℕ) (w x : ℕ) → get_or l w 0 ≡ x → Put l l w x false
put_same l w x e = record { word = sym (rw (← e) (set-get_or l w 0)); same = λ q. e; other = λ q. absurd (true≢false (sym q)) }

pub put_new : (l : List ℕ) (w x : ℕ) → (get_or l w 0 ≡ x → ⊥) → ((k : ℕ) → Fits w64 (get_or l k 0)) → Fits w64 x → Put l (set l w x) w x true
put_new l w x h kn f = record { word = refl; same = λ q. absurd (true≢false q); other = λ q. word_other 64 (get_or l w 0) x (kn w).fits f.fits h }

pub differ_none : (l : List ℕ) (w : ℕ) (f : ℕ → Bool) → Differs l w 0 f false
differ_none l w f = record { same = λ e k h. absurd (omega arith); other = λ e. absurd (true≢false (sym e)) }

pub differ_next : (l₀ l l' : List ℕ) (w i x : ℕ) (f : ℕ → Bool) (t b z : Bool) → Filled l₀ l w i f → ((k : ℕ) → k < 64 → word_bit x k ≡ f (i * 64 + k))
    → Differs l₀ w i f t → Put l l' (w + i) x b → z ≡ (b || t) → Differs l₀ w (i + 1) f z
differ_next l₀ l l' w i x f t b z F new D Q ez = go b refl
  where
    old : (k : ℕ) → k < 64 → word_bit (get_or l (w + i) 0) k ≡ bit l₀ (w * 64 + (i * 64 + k))
    old k h = word_left l₀ l w i w i k f F h (λ a b. omega arith)

    go : (q : Bool) → b ≡ q → Differs l₀ w (i + 1) f z
    go false e =
        let zt : z ≡ t = ez ∙ rw e in
        record {
          same = λ g k h. elim (lt_or_ge k (i * 64)) [
            | inl q ↦ D.same (sym zt ∙ g) k q
            | inr q ↦ (let p : k ≡ i * 64 + (k - i * 64) = omega arith in
                rw p (sym (old (k - i * 64) (omega arith)) ∙ ap (λ (x : ℕ). word_bit x (k - i * 64)) (Q.same e) ∙ new (k - i * 64) (omega arith)))
          ];
          other = λ g. (let s = D.other (sym zt ∙ g) in (s.0, omega (arith, s.1), s.2));
        }
    go true e =
        let zt : z ≡ true = ez ∙ rw e in
        let s = Q.other e in
        record {
          same = λ g. clash zt g;
          other = λ g. (i * 64 + s.0, omega (arith, s.1), λ q. s.2 (old s.0 s.1 ∙ q ∙ sym (new s.0 s.1)));
        }

-- The search for a set bit: none from a on below p

abbrev pub NoneTo : List ℕ → ℕ → ℕ → Type 0
NoneTo l a p = (j : ℕ) → a ≤ j → j < p → bit l j ≡ false

pub here : (l : List ℕ) (a e : ℕ) (y : Bool) → y ≡ (ltb a e && bit l a) → y ≡ true → First l a e a
here l a e y q t =
    let s = and_split (ltb a e) (bit l a) (sym q ∙ t) in
    record { from = omega arith; upto = omega (arith, ltb-true a e s.0); none = λ j h g. absurd (omega arith); there = λ h. s.1 }

-- x is the word of bit p, shifted down to it
module _ (l : List ℕ) (a e p x : ℕ) (ex : x ≡ get_or l (p / 64) 0 / 2 ^ (p % 64)) (N : NoneTo l a p) (hap : a ≤ p) (pe : p < e) where
  shifted : (j : ℕ) → p ≤ j → j < (p / 64 + 1) * 64 → bit l j ≡ word_bit x (j - p)
  unfolding bit
  shifted j h g =
      let q : j / 64 ≡ p / 64 = omega arith in
      let s : j % 64 ≡ p % 64 + (j - p) = omega arith in
      rw (q, s) (sym (shr_bit (get_or l (p / 64) 0) (p % 64) (j - p)) ∙ rw (← ex))

  pub none_next : x ≡ 0 → NoneTo l a ((p / 64 + 1) * 64)
  none_next z j h g = elim (lt_or_ge j p) [ inl q ↦ N j h q | inr q ↦ shifted j q g ∙ rw z (zero_bit (j - p)) ]

  module _ (pos : x ≡ 0 → ⊥) (kn : (k : ℕ) → Fits w64 (get_or l k 0)) where
    there_bit : word_bit x (count_trailing_zeros 64 x) ≡ true
    there_bit = low_there 64 x (omega arith) (lt_of_le_of_lt (rw ex (shr_le (get_or l (p / 64) 0) (p % 64))) (kn (p / 64)).fits)

    same_word : p + count_trailing_zeros 64 x < (p / 64 + 1) * 64
    same_word = elim (dec_lt (p % 64 + count_trailing_zeros 64 x) 64) [
      | yes h ↦ omega arith
      | no h ↦ clash (sym (shr_bit (get_or l (p / 64) 0) (p % 64) (count_trailing_zeros 64 x)) ∙ rw (← ex) there_bit)
          (above_bit (get_or l (p / 64) 0) (p % 64 + count_trailing_zeros 64 x) (lt_of_lt_of_le (kn (p / 64)).fits (pow_mono {i = 64} (omega arith))))
    ]

    none_below : (j : ℕ) → a ≤ j → j < p + count_trailing_zeros 64 x → bit l j ≡ false
    none_below j h g = elim (lt_or_ge j p) [ inl q ↦ N j h q | inr q ↦ shifted j q (omega (arith, same_word)) ∙ low_none 64 x (j - p) (omega arith) ]

    pub found : (q : ℕ) → q ≡ min (p + count_trailing_zeros 64 x) e → First l a e q
    found q v = elim (lt_or_ge (p + count_trailing_zeros 64 x) e) [
      | inl h ↦ (let z : q ≡ p + count_trailing_zeros 64 x = omega arith in rw z (record {
        from = omega arith;
        upto = omega arith;
        none = none_below;
        there = λ g. shifted (p + count_trailing_zeros 64 x) (omega arith) same_word ∙ (let y : p + count_trailing_zeros 64 x - p ≡ count_trailing_zeros 64 x = omega arith in rw y there_bit);
      }))
      | inr h ↦ (let z : q ≡ e = omega arith in rw z (record { from = omega arith; upto = omega arith; none = λ j y g. none_below j y (omega arith); there = λ y. absurd (omega arith) }))
    ]

pub ruleset row_rules = (put_same, put_new)
