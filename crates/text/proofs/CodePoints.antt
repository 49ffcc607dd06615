-- Laws of UTF-8 by code points, and the rules for the needs of the functions over them.
--   following_1 .. following_4, following_low, following_high    what follows a leading byte, by its range
--   within_past, within_low, within_one    no byte; a byte below the range; a byte that is not below it
--   within_go, within_no   the first byte is of its range, and the rest decides; it is not
--   within_inside          where bytes start within a range, there is one
--   point_past, point_none, point_one, point_yes, point_no       the length of the code point at i, by what follows its leading byte
--   utf8_ascii, utf8_step, utf8_stop, utf8_end                   the loop over code points
--   utf8_inside, utf8_fits a code point ends within the bytes, at a place that fits
-- Assumes nothing.
use Rattle.std.specs.Prelude.{Option, None, Some}
use mathlib.Core.Path.{◌≡◌, refl, sym, ◌∙◌}
use mathlib.Core.Bool.{Bool, true, false, ◌&&◌, cond, and-true, and-false, and_assoc}
use mathlib.Core.List.{List, [], ◌∷◌}
use Prim.Native.Nat.{ℕ, suc, ◌+◌, ◌≤◌, ◌<◌, ◌^◌, zero-le, suc-le-suc}
use native.Mathlib.Nat.{lt_of_le_of_lt}
use mir.Syntax.{w64}
use mir.Val.{Fits}
use native.Mathlib.Omega.{arith}
use borrow.Author.Tests.{ne_eqb, eqb-true, eqb-false, le-leb, lt-leb, leb-false}
use lib.Dec.{eqb, leb, eqb-suc-zero}
use lib.ListN.{length, get_or, drop, length-drop}
use lib.Seq.{drop-drop}
use Rattle.definitions.specs.Utf8.{Range, to, tail, within, following, utf8_after, is_utf8}
use Rattle.text.specs.CodePoint.{low, high, starts_within, code_point}
use Rattle.text.proofs.Parts.{drop_step, drop_end}

-- The leading byte

module _ (a : ℕ) where
  pub following_1 : a < 0x80 → following a ≡ Some []
  unfolding following
  following_1 h = rw (le-leb a 0x7f (omega arith))

  pub following_low : 0x80 ≤ a → a < 0xc2 → following a ≡ None
  unfolding following
  following_low g h =
      rw (lt-leb a 0x7f (omega arith), lt-leb 0xc2 a h, ne_eqb a 0xe0 (λ e. omega arith), lt-leb 0xe1 a (omega arith), ne_eqb a 0xed (λ e. omega arith), lt-leb 0xee a (omega arith), ne_eqb a 0xf0 (λ e. omega arith), lt-leb 0xf1 a (omega arith), ne_eqb a 0xf4 (λ e. omega arith))

  pub following_2 : 0xc2 ≤ a → a < 0xe0 → following a ≡ Some (tail ∷ [])
  unfolding following
  following_2 g h = rw (lt-leb a 0x7f (omega arith), le-leb 0xc2 a g, le-leb a 0xdf (omega arith))

  pub following_high : 0xf5 ≤ a → following a ≡ None
  unfolding following
  following_high g =
      rw (lt-leb a 0x7f (omega arith), lt-leb a 0xdf (omega arith), and-false (leb 0xc2 a), ne_eqb a 0xe0 (λ e. omega arith), lt-leb a 0xec (omega arith), and-false (leb 0xe1 a), ne_eqb a 0xed (λ e. omega arith), lt-leb a 0xef (omega arith), and-false (leb 0xee a), ne_eqb a 0xf0 (λ e. omega arith), lt-leb a 0xf3 (omega arith), and-false (leb 0xf1 a), ne_eqb a 0xf4 (λ e. omega arith))

  following_e : 0xe0 ≤ a → a < 0xf0 → following a ≡ Some (to (low a) (high a) ∷ tail ∷ [])
  unfolding following
  following_e g h = go (eqb a 0xe0) (eqb a 0xed) (leb a 0xec) refl refl refl
    where
      go : (x y z : Bool) → eqb a 0xe0 ≡ x → eqb a 0xed ≡ y → leb a 0xec ≡ z → following a ≡ Some (to (low a) (high a) ∷ tail ∷ [])
      go true y z p q r = let e : a ≡ 0xe0 = eqb-true a 0xe0 p in rw e
      go false true z p q r = let e : a ≡ 0xed = eqb-true a 0xed q in rw e
      go false false true p q r =
          let n : (a ≡ 0xe0 → ⊥) = eqb-false a 0xe0 p in
          rw (lt-leb a 0x7f (omega arith), lt-leb a 0xdf (omega arith), and-false (leb 0xc2 a), p, le-leb 0xe1 a (omega arith), r, q, ne_eqb a 0xf0 (λ e. omega arith), ne_eqb a 0xf4 (λ e. omega arith))
      go false false false p q r =
          let n : (a ≡ 0xed → ⊥) = eqb-false a 0xed q in
          let m : 0xec < a = leb-false a 0xec r in
          rw (lt-leb a 0x7f (omega arith), lt-leb a 0xdf (omega arith), and-false (leb 0xc2 a), p, r, and-false (leb 0xe1 a), q, le-leb 0xee a (omega arith), le-leb a 0xef (omega arith), ne_eqb a 0xf0 (λ e. omega arith), ne_eqb a 0xf4 (λ e. omega arith))

  following_f : 0xf0 ≤ a → a < 0xf5 → following a ≡ Some (to (low a) (high a) ∷ tail ∷ tail ∷ [])
  unfolding following
  following_f g h = go (eqb a 0xf0) (eqb a 0xf4) refl refl
    where
      go : (x y : Bool) → eqb a 0xf0 ≡ x → eqb a 0xf4 ≡ y → following a ≡ Some (to (low a) (high a) ∷ tail ∷ tail ∷ [])
      go true y p q = let e : a ≡ 0xf0 = eqb-true a 0xf0 p in rw e
      go false true p q = let e : a ≡ 0xf4 = eqb-true a 0xf4 q in rw e
      go false false p q =
          let n : (a ≡ 0xf0 → ⊥) = eqb-false a 0xf0 p in
          let m : (a ≡ 0xf4 → ⊥) = eqb-false a 0xf4 q in
          rw (lt-leb a 0x7f (omega arith), lt-leb a 0xdf (omega arith), and-false (leb 0xc2 a), ne_eqb a 0xe0 (λ e. omega arith), lt-leb a 0xec (omega arith), and-false (leb 0xe1 a), ne_eqb a 0xed (λ e. omega arith), lt-leb a 0xef (omega arith), and-false (leb 0xee a), p, le-leb 0xf1 a (omega arith), le-leb a 0xf3 (omega arith), q)

  module _ (l h : ℕ) (p : l ≡ low a) (q : h ≡ high a) where
    pub following_3 : 0xe0 ≤ a → a < 0xf0 → following a ≡ Some (to l h ∷ tail ∷ [])
    following_3 g k = rw (p, q) (following_e g k)

    pub following_4 : 0xf0 ≤ a → a < 0xf5 → following a ≡ Some (to l h ∷ tail ∷ tail ∷ [])
    following_4 g k = rw (p, q) (following_f g k)

-- Bytes within ranges

within_split : (r : Range) (rs : List Range) (t : List ℕ) → starts_within (r ∷ rs) t ≡ (starts_within (r ∷ []) t && starts_within rs (drop 1 t))
unfolding starts_within
within_split r rs [] = refl
within_split r rs (b ∷ t) = rw (and-true (within r.low r.high b))

within_length : (rs : List Range) (t : List ℕ) → starts_within rs t ≡ true → length rs ≤ length t
unfolding starts_within
within_length [] t h = zero-le
within_length (r ∷ rs) [] h = let z : ◌≡◌ {A = ℕ} 0 1 = cc in absurd (omega arith)
within_length (r ∷ rs) (b ∷ t) h = go (within r.low r.high b) h (λ e. within_length rs t e)
  where
    go : (x : Bool) → (x && starts_within rs t) ≡ true → (starts_within rs t ≡ true → length rs ≤ length t) → suc (length rs) ≤ suc (length t)
    go true e f = suc-le-suc (f e)
    go false e f = let z : ◌≡◌ {A = ℕ} 0 1 = cc in absurd (omega arith)

module _ (s : List ℕ) (i : ℕ) where
  pub within_past : (r : Range) (rs : List Range) → length s ≤ i → false ≡ starts_within (r ∷ rs) (drop i s)
  unfolding starts_within
  within_past r rs h = rw (drop_end s i h)

  module _ (l h : ℕ) (e : i < length s) where
    pub within_low : get_or s i 0 < l → false ≡ starts_within (to l h ∷ []) (drop i s)
    unfolding starts_within
    within_low g = rw (drop_step 0 s i e, lt-leb l (get_or s i 0) g)

    pub within_one : l ≤ get_or s i 0 → leb (get_or s i 0) h ≡ starts_within (to l h ∷ []) (drop i s)
    unfolding starts_within
    within_one g = rw (drop_step 0 s i e, le-leb l (get_or s i 0) g) (sym (and-true (leb (get_or s i 0) h)))

  module _ (r : Range) (b : Bool) (e : b ≡ starts_within (r ∷ []) (drop i s)) where
    pub within_go : (rs : List Range) (x : Bool) → b ≡ true → x ≡ starts_within rs (drop (i + 1) s) → x ≡ starts_within (r ∷ rs) (drop i s)
    within_go rs x f g = rw (within_split r rs (drop i s), ← e, f, drop-drop 1 i s) g

    pub within_no : (rs : List Range) → b ≡ false → false ≡ starts_within (r ∷ rs) (drop i s)
    within_no rs f = rw (within_split r rs (drop i s), ← e, f)

    pub within_inside : b ≡ true → i + 1 ≤ length s
    within_inside f = omega (arith, within_length (r ∷ []) (drop i s) (sym e ∙ f), length-drop i s)

-- One code point

point : Option (List Range) → List ℕ → ℕ
point o t = elim o [ None ↦ 0 | Some rs ↦ cond (starts_within rs t) (suc (length rs)) 0 ]

module _ (s : List ℕ) (i : ℕ) where
  pub point_past : length s ≤ i → 0 ≡ code_point (drop i s)
  unfolding code_point
  point_past h = rw (drop_end s i h)

  module _ (h : i < length s) where
    point_by : code_point (drop i s) ≡ point (following (get_or s i 0)) (drop (i + 1) s)
    unfolding code_point point
    point_by = rw (drop_step 0 s i h)

    pub point_none : following (get_or s i 0) ≡ None → 0 ≡ code_point (drop i s)
    unfolding point
    point_none e = rw (point_by, e)

    pub point_one : following (get_or s i 0) ≡ Some [] → 1 ≡ code_point (drop i s)
    unfolding point starts_within
    point_one e = rw (point_by, e)

    module _ (rs : List Range) (b : Bool) (e : following (get_or s i 0) ≡ Some rs) (q : b ≡ starts_within rs (drop (i + 1) s)) where
      pub point_yes : (n : ℕ) → b ≡ true → n ≡ suc (length rs) → n ≡ code_point (drop i s)
      unfolding point
      point_yes n f z = rw (point_by, e, ← q, f) z

      pub point_no : b ≡ false → 0 ≡ code_point (drop i s)
      unfolding point
      point_no f = rw (point_by, e, ← q, f)

-- All code points

after_split : (rs : List Range) (s : List ℕ) → utf8_after rs s ≡ (starts_within rs s && is_utf8 (drop (length rs) s))
unfolding utf8_after starts_within
after_split [] s = refl
after_split (r ∷ rs) [] = refl
after_split (r ∷ rs) (b ∷ s) = rw (after_split rs s) (sym (and_assoc (within r.low r.high b) (starts_within rs s) (is_utf8 (drop (length rs) s))))

after : Option (List Range) → List ℕ → Bool
after o s = elim o [ None ↦ false | Some rs ↦ utf8_after rs s ]

after_by : (a : ℕ) (s : List ℕ) → is_utf8 (a ∷ s) ≡ after (following a) s
unfolding utf8_after after
after_by a s = refl

after_point : (a : ℕ) (s : List ℕ) → is_utf8 (a ∷ s) ≡ cond (eqb (code_point (a ∷ s)) 0) false (is_utf8 (drop (code_point (a ∷ s)) (a ∷ s)))
unfolding after code_point point
after_point a s = after_by a s ∙ go (following a)
  where
    met : (rs : List Range) (b : Bool) → (b && is_utf8 (drop (length rs) s)) ≡ cond (eqb (cond b (suc (length rs)) 0) 0) false (is_utf8 (drop (cond b (suc (length rs)) 0) (a ∷ s)))
    met rs true = rw (eqb-suc-zero (length rs))
    met rs false = refl

    go : (o : Option (List Range)) → after o s ≡ cond (eqb (point o s) 0) false (is_utf8 (drop (point o s) (a ∷ s)))
    go None = refl
    go (Some rs) = after_split rs s ∙ met rs (starts_within rs s)

point_length : (t : List ℕ) → code_point t ≤ length t
unfolding code_point
point_length [] = zero-le
point_length (a ∷ t) = go (following a)
  where
    go : (o : Option (List Range)) → elim o [ None ↦ 0 | Some rs ↦ cond (starts_within rs t) (suc (length rs)) 0 ] ≤ suc (length t)
    go None = zero-le
    go (Some rs) = met (starts_within rs t) refl
      where
        met : (b : Bool) → starts_within rs t ≡ b → cond b (suc (length rs)) 0 ≤ suc (length t)
        met true e = suc-le-suc (within_length rs t e)
        met false e = zero-le

module _ (s : List ℕ) (i : ℕ) where
  pub utf8_inside : (n : ℕ) → i ≤ length s → n ≡ code_point (drop i s) → i + n ≤ length s
  utf8_inside n h e = omega (arith, point_length (drop i s), length-drop i s)

  pub utf8_fits : (n : ℕ) → i ≤ length s → n ≡ code_point (drop i s) → length s < 2 ^ 64 → Fits w64 (i + n)
  utf8_fits n h e g = record { fits = lt_of_le_of_lt (utf8_inside n h e) g }

  module _ (inv : is_utf8 s ≡ is_utf8 (drop i s)) where
    pub utf8_end : length s ≤ i → true ≡ is_utf8 s
    unfolding utf8_after
    utf8_end h = sym (inv ∙ rw (drop_end s i h))

    module _ (h : i < length s) where
      pub utf8_ascii : get_or s i 0 < 0x80 → is_utf8 s ≡ is_utf8 (drop (i + 1) s)
      unfolding after
      utf8_ascii g = inv ∙ rw (drop_step 0 s i h, after_by, following_1 (get_or s i 0) g)

      module _ (n : ℕ) (e : n ≡ code_point (drop i s)) where
        step : is_utf8 s ≡ cond (eqb n 0) false (is_utf8 (drop n (drop i s)))
        step = inv ∙ rw (e, drop_step 0 s i h) (after_point (get_or s i 0) (drop (i + 1) s))

        pub utf8_step : (n ≡ 0 → ⊥) → is_utf8 s ≡ is_utf8 (drop (i + n) s)
        utf8_step f = step ∙ rw (ne_eqb n 0 f, drop-drop n i s)

        pub utf8_stop : n ≡ 0 → false ≡ is_utf8 s
        utf8_stop f = sym (step ∙ rw f)

pub ruleset code_points = (following_1, following_low, following_2, following_3, following_4, following_high, within_past, within_low, within_one, within_go, within_no, within_inside, point_past, point_none, point_one, point_yes, point_no, utf8_inside, utf8_fits, utf8_end, utf8_ascii, utf8_step, utf8_stop)
