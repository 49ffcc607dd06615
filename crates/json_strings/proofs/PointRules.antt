-- Rules for the needs of the code points: each premise is a field of what a need is handed.
--   length_short, point_within           the length of the code point at the start
--   point_bad, point_go                  none; the code point, by its length
--   point_loaded                         the code point, of which four loaded bytes hold as many as it has
--   encode_1 .. encode_4                 the bytes of a code point, by its number
-- Assumes nothing.
use Rattle.std.specs.Prelude.{Option, None, Some}
use mathlib.Core.Path.{◌≡◌, refl, sym, ◌∙◌}
use mathlib.Core.Bool.{Bool, true, false, ◌&&◌, cond}
use mathlib.Core.List.{List, [], ◌∷◌}
use Prim.Native.Nat.{ℕ, zero, suc, ◌+◌, ◌/◌, ◌%◌, ◌≤◌, ◌<◌, zero-le, suc-le-suc}
use native.Mathlib.Omega.{arith}
use borrow.Author.Tests.{ne_eqb, lt-ltb, le-ltb}
use lib.Dec.{eqb, leb, eqb-suc-zero}
use lib.ListN.{length, get_or, take, drop}
use Rattle.definitions.specs.Utf8.{Range, within, following}
use Rattle.text.specs.CodePoint.{starts_within}
use Rattle.text.specs.CodePoint.{code_point as point_length}
use Rattle.text.proofs.CodePoints.{utf8_inside}
use Rattle.json_definitions.specs.Parser.{Got, got, pure, after}
use Rattle.json_definitions.specs.Strings.{encode, in_ranges, code_point}

-- The length of a code point tells its bytes

ranges_are : (rs : List Range) (s : List ℕ) → in_ranges rs s ≡ cond (starts_within rs s) (got (take (length rs) s) (drop (length rs) s)) None
unfolding in_ranges starts_within
ranges_are [] s = refl
ranges_are (r ∷ rs) [] = refl
ranges_are (r ∷ rs) (b ∷ s) = go (within r.low r.high b) (starts_within rs s) (ranges_are rs s)
  where
    go : (x y : Bool) → in_ranges rs s ≡ cond y (got (take (length rs) s) (drop (length rs) s)) None
        → cond x (after (in_ranges rs s) (λ bs. pure (b ∷ bs))) None ≡ cond (x && y) (got (b ∷ take (length rs) s) (drop (length rs) s)) None
    go true true e = rw e (unfold after in refl)
    go true false e = rw e (unfold after in refl)
    go false y e = refl

abbrev short : Option (List Range) → Type 0
short None = Unit {0}
short (Some rs) = length rs ≤ 3

choice_short : (b : Bool) (rs : List Range) (o : Option (List Range)) → length rs ≤ 3 → short o → short (cond b (Some rs) o)
choice_short true rs o h k = h
choice_short false rs o h k = k

following_short : (a : ℕ) → short (following a)
unfolding following
following_short a =
    choice_short (leb a 0x7f) _ _ (omega arith) (choice_short (within 0xc2 0xdf a) _ _ (omega arith) (choice_short (eqb a 0xe0) _ _ (omega arith)
    (choice_short (within 0xe1 0xec a) _ _ (omega arith) (choice_short (eqb a 0xed) _ _ (omega arith) (choice_short (within 0xee 0xef a) _ _ (omega arith)
    (choice_short (eqb a 0xf0) _ _ (omega arith) (choice_short (within 0xf1 0xf3 a) _ _ (omega arith) (choice_short (eqb a 0xf4) _ _ (omega arith) tt))))))))

pub length_short : (t : List ℕ) → point_length t ≤ 4
unfolding point_length
length_short [] = zero-le
length_short (a ∷ t) = go (following a) (following_short a)
  where
    go : (o : Option (List Range)) → short o → elim o [ None ↦ 0 | Some rs ↦ cond (starts_within rs t) (suc (length rs)) 0 ] ≤ 4
    go None h = zero-le
    go (Some rs) h = met (starts_within rs t)
      where
        met : (b : Bool) → cond b (suc (length rs)) 0 ≤ 4
        met true = suc-le-suc h
        met false = zero-le

abbrev told : List ℕ → ℕ → Option (Got (List ℕ))
told t n = cond (eqb n 0) None (got (take n t) (drop n t))

point_is : (t : List ℕ) → code_point t ≡ told t (point_length t)
unfolding code_point point_length after
point_is [] = refl
point_is (a ∷ t) = go (following a)
  where
    met : (rs : List Range) (b : Bool) → after (cond b (got (take (length rs) t) (drop (length rs) t)) None) (λ bs. pure (a ∷ bs)) ≡ told (a ∷ t) (cond b (suc (length rs)) 0)
    met rs true = rw (eqb-suc-zero (length rs))
    met rs false = refl

    go : (o : Option (List Range))
        → elim o [ None ↦ None | Some rs ↦ after (in_ranges rs t) (λ bs. pure (a ∷ bs)) ]
        ≡ told (a ∷ t) (elim o [ None ↦ 0 | Some rs ↦ cond (starts_within rs t) (suc (length rs)) 0 ])
    go None = refl
    go (Some rs) = rw (ranges_are rs t) (met rs (starts_within rs t))

pub point_bad : (s : List ℕ) → point_length s ≡ 0 → code_point s ≡ None
point_bad s e = point_is s ∙ rw e

pub point_go : (s : List ℕ) → (point_length s ≡ 0 → ⊥) → code_point s ≡ got (take (point_length s) s) (drop (point_length s) s)
point_go s e = point_is s ∙ rw (ne_eqb (point_length s) 0 e)

pub point_within : (s : List ℕ) → point_length s ≤ length s
point_within s = let h : 0 + point_length s ≤ length s = utf8_inside s 0 (point_length s) zero-le refl in omega arith

take_four : (t : List ℕ) (n : ℕ) → n ≤ 4 → n ≤ length t → take n (get_or t 0 0 ∷ get_or t 1 0 ∷ get_or t 2 0 ∷ get_or t 3 0 ∷ []) ≡ take n t
take_four t zero h k = refl
take_four [] (suc n) h k = absurd (omega arith)
take_four (a ∷ t) (suc zero) h k = refl
take_four (a ∷ []) (suc (suc n)) h k = absurd (omega arith)
take_four (a ∷ (b ∷ t)) (suc (suc zero)) h k = refl
take_four (a ∷ (b ∷ [])) (suc (suc (suc n))) h k = absurd (omega arith)
take_four (a ∷ (b ∷ (c ∷ t))) (suc (suc (suc zero))) h k = refl
take_four (a ∷ (b ∷ (c ∷ []))) (suc (suc (suc (suc n)))) h k = absurd (omega arith)
take_four (a ∷ (b ∷ (c ∷ (d ∷ t)))) (suc (suc (suc (suc zero)))) h k = refl
take_four (a ∷ (b ∷ (c ∷ (d ∷ t)))) (suc (suc (suc (suc (suc n))))) h k = absurd (omega arith)

pub point_loaded : (s : List ℕ) (n a b c d : ℕ) (rest : List ℕ) → n ≡ point_length s → (n ≡ 0 → ⊥)
    → a ≡ get_or s 0 0 → b ≡ get_or s 1 0 → c ≡ get_or s 2 0 → d ≡ get_or s 3 0 → rest ≡ drop n s
    → got (take n (a ∷ b ∷ c ∷ d ∷ [])) rest ≡ code_point s
point_loaded s n a b c d rest e f p q r t u =
    let h : n ≤ 4 = rw e (length_short s) in
    let k : n ≤ length s = rw e (point_within s) in
    rw (p, q, r, t, u, take_four s n h k) (sym (point_go s (λ z. f (e ∙ z)) ∙ rw (← e) refl))

-- The bytes of a code point

module _ (u : ℕ) where
  pub encode_1 : u < 128 → encode u ≡ u ∷ []
  unfolding encode
  encode_1 h = rw (lt-ltb u 128 h)

  pub encode_2 : 128 ≤ u → u < 2048 → encode u ≡ (192 + u / 64) ∷ (128 + u % 64) ∷ []
  unfolding encode
  encode_2 l h = rw (le-ltb u 128 l, lt-ltb u 2048 h)

  pub encode_3 : 2048 ≤ u → u < 65536 → encode u ≡ (224 + u / 4096) ∷ (128 + u / 64 % 64) ∷ (128 + u % 64) ∷ []
  unfolding encode
  encode_3 l h = rw (le-ltb u 128 (omega arith), le-ltb u 2048 l, lt-ltb u 65536 h)

  pub encode_4 : 65536 ≤ u → encode u ≡ (240 + u / 262144) ∷ (128 + u / 4096 % 64) ∷ (128 + u / 64 % 64) ∷ (128 + u % 64) ∷ []
  unfolding encode
  encode_4 l = rw (le-ltb u 128 (omega arith), le-ltb u 2048 (omega arith), le-ltb u 65536 l)

pub ruleset points = (length_short, point_within, point_bad, point_go, encode_1, encode_2, encode_3, encode_4)
