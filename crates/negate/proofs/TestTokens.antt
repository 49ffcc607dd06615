-- The tokens of a leading test, by their places: without the empty ones they are the condition.
--   test_first, test_past       the tokens from place k on
--   test_short                  a token has at most 24 bits of bytes
--   kind_short                  a token's kind has 8 bits
--   text_cut                    the text that the code works out of one
--   at_first, length_first      the elements of a list whose first is changed
--   test_is                     without the empty ones they are `cut 2 2` of the line's tokens
-- Assumes nothing.
use mathlib.Core.Path.{◌≡◌, refl, sym, ap, ◌∙◌}
use mathlib.Core.Bool.{Bool, true, false, cond}
use mathlib.Core.List.{List, [], ◌∷◌, map}
use Prim.Native.Nat.{ℕ, zero, suc, ◌+◌, ◌-◌, ◌≤◌, ◌<◌}
use native.Mathlib.Nat.{add-zero, add-suc, suc-add, zero-add, sub-zero, not-suc-le-zero, le_of_suc-le-suc}
use native.Mathlib.Numerals.{add-one}
use native.Mathlib.Decide.{dec_lt}
use native.Mathlib.Omega.{arith}
use borrow.Author.Tests.{eq-eqb, ne_eqb, eqb-true, eqb-false}
use lib.Dec.{eqb}
use lib.ListN.{length, get_or, drop, length-map, length-drop, get_or-eq_default}
use lib.Seq.{take_all, ext_get_or}
use Rattle.definitions.specs.Lists.{part, range, on_first, on_last}
use Rattle.definitions.specs.Model.{Token, Line, tok, token, line, no_token}
use Rattle.definitions.specs.Columns.{listing}
use Rattle.definitions.specs.Condition.{cut_front, cut_end}
use Rattle.text.proofs.Parts.{part_get, length_part}
use Rattle.model.specs.Places.{line_start, line_end}
use Rattle.model.proofs.Decode.{token_at, line_length, line_token}
use Rattle.negate.specs.Tests.{test, test_count, test_token, test_from, test_tokens, front, back}
use Rattle.append.specs.Adds.{whole}

module _ (l : Line) (m : ℕ) where
  pub test_first : (k : ℕ) → k < m → test_from l m k ≡ test_token l m k ∷ test_from l m (k + 1)
  unfolding test_from range
  test_first k h = let z : m - k ≡ suc (m - (k + 1)) = omega arith in rw (z, add-one)

  pub test_past : (k : ℕ) → m ≤ k → test_from l m k ≡ []
  unfolding test_from range
  test_past k h = let z : m - k ≡ 0 = omega arith in rw z

  pub test_short : ((j : ℕ) → length (token l j).text ≤ 16777215) → (k : ℕ) → length (test_token l m k).text ≤ 16777215
  unfolding test_token
  test_short h k = omega (arith, h (k + 1), length_part (token l (k + 1)).text (front k) (length (token l (k + 1)).text - back m k))

-- a kind has 8 bits
pub kind_short : (l t x : List ℕ) (i j : ℕ) → (token (line (listing l t x) i) j).kind < 256
kind_short l t x i j = go (dec_lt j (line_end l t i - line_start l i))
  where
    go : Dec (j < line_end l t i - line_start l i) → (token (line (listing l t x) i) j).kind < 256
    go (yes g) = rw (line_token l t x i j g, token_at t x (line_start l i + j)) (omega arith)
    go (no g) =
        let e : length (line (listing l t x) i).tokens ≤ j = omega (arith, line_length l t x i) in
        rw (get_or-eq_default (line (listing l t x) i).tokens no_token e) (omega arith)

-- what the code cuts out
pub text_cut : (m k : ℕ) (r s t : List ℕ) (a b c : ℕ) → r ≡ part a b s → s ≡ t → a ≡ front k → b ≡ length s - c → c ≡ back m k
    → r ≡ part (front k) (length t - back m k) t
text_cut m k r s t a b c e q f g h = rw (← f, ← h, ← q, ← g) e

-- Elements by their places

eqb_suc : (a b : ℕ) → eqb a b ≡ eqb (suc a) (suc b)
eqb_suc a b = go (eqb a b) refl
  where
    go : (x : Bool) → eqb a b ≡ x → x ≡ eqb (suc a) (suc b)
    go true e = sym (eq-eqb (suc a) (suc b) (ap suc (eqb-true a b e)))
    go false e = sym (ne_eqb (suc a) (suc b) (λ q. eqb-false a b e (omega arith)))

module _ {A : Type 0} (d : A) where
  pub at_first : (f : A → A) (xs : List A) (j : ℕ) → j < length xs → get_or (on_first f xs) j d ≡ cond (eqb j 0) (f (get_or xs j d)) (get_or xs j d)
  unfolding on_first
  at_first f [] j h = absurd (not-suc-le-zero h)
  at_first f (x ∷ xs) zero h = refl
  at_first f (x ∷ xs) (suc j) h = rw (ne_eqb (suc j) 0 (λ e. omega arith))

  at_last : (f : A → A) (xs : List A) (j : ℕ) → j < length xs → get_or (on_last f xs) j d ≡ cond (eqb (j + 1) (length xs)) (f (get_or xs j d)) (get_or xs j d)
  unfolding on_last
  at_last f [] j h = absurd (not-suc-le-zero h)
  at_last f (x ∷ []) zero h = refl
  at_last f (x ∷ []) (suc j) h = absurd (omega arith)
  at_last f (x ∷ (y ∷ xs)) zero h = rw (ne_eqb 1 (suc (suc (length xs))) (λ e. omega arith))
  at_last f (x ∷ (y ∷ xs)) (suc j) h = at_last f (y ∷ xs) j (le_of_suc-le-suc h) ∙ ap (λ (b : Bool). cond b (f (get_or (y ∷ xs) j d)) (get_or (y ∷ xs) j d)) (eqb_suc (j + 1) (suc (length xs)) ∙ ap (λ (k : ℕ). eqb k (suc (suc (length xs)))) (omega arith))

  at_range : (f : ℕ → A) (a n j : ℕ) → j < n → get_or (map f (range a n)) j d ≡ f (a + j)
  unfolding range
  at_range f a zero j h = absurd (not-suc-le-zero h)
  at_range f a (suc n) zero h = rw (add-zero a)
  at_range f a (suc n) (suc j) h = rw (add-suc a j, ← suc-add a j) (at_range f (suc a) n j (le_of_suc-le-suc h))

module _ {A : Type 0} where
  pub length_first : (f : A → A) (xs : List A) → length (on_first f xs) ≡ length xs
  unfolding on_first
  length_first f [] = refl
  length_first f (x ∷ xs) = refl

  length_last : (f : A → A) (xs : List A) → length (on_last f xs) ≡ length xs
  unfolding on_last
  length_last f [] = refl
  length_last f (x ∷ []) = refl
  length_last f (x ∷ (y ∷ xs)) = ap suc (length_last f (y ∷ xs))

length_range : (a n : ℕ) → length (range a n) ≡ n
unfolding range
length_range a zero = refl
length_range a (suc n) = ap suc (length_range (suc a) n)

-- A token that may lose bytes at either end

cut_ends : (a b : Bool) (t : Token) → cond b (cut_end 2 (cond a (cut_front 2 t) t)) (cond a (cut_front 2 t) t)
    ≡ tok (part (cond a 2 0) (length t.text - cond b 2 0) t.text) t.kind
cut_ends true true t =
    let z : length t.text - 2 - 2 ≡ length (drop 2 t.text) - 2 = omega (arith, length-drop 2 t.text) in
    rw z
cut_ends true false t = ap (λ (s : List ℕ). tok s t.kind) (sym (take_all (length t.text - 0 - 2) (drop 2 t.text) (rw length-drop (omega arith))))
cut_ends false true t = rw (sub-zero (length t.text - 2))
cut_ends false false t = ap (λ (s : List ℕ). tok s t.kind) (sym (take_all (length t.text - 0 - 0) t.text (omega arith)))

module _ (l : Line) (g : ℕ) where
  ends : List Token → List Token
  ends xs = on_last (cut_end 2) (on_first (cut_front 2) xs)

  length_ends : (xs : List Token) → length (ends xs) ≡ length xs
  unfolding ends
  length_ends xs = length_last (cut_end 2) (on_first (cut_front 2) xs) ∙ length_first (cut_front 2) xs

  at_ends : (xs : List Token) (j : ℕ) → j < length xs
      → get_or (ends xs) j no_token ≡ tok (part (front j) (length (get_or xs j no_token).text - back (length xs) j) (get_or xs j no_token).text) (get_or xs j no_token).kind
  unfolding ends
  at_ends xs j h =
      let k : j < length (on_first (cut_front 2) xs) = rw (length_first (cut_front 2) xs) h in
      at_last no_token (cut_end 2) (on_first (cut_front 2) xs) j k
      ∙ rw (length_first (cut_front 2) xs, at_first no_token (cut_front 2) xs j h) (cut_ends (eqb j 0) (eqb (j + 1) (length xs)) (get_or xs j no_token))

  tests_at : (m : ℕ) (xs : List Token) → length xs ≡ m → ((j : ℕ) → j < m → get_or xs j no_token ≡ token l (j + 1)) → test_tokens l m ≡ ends xs
  unfolding test_from test_token
  tests_at m xs count at = ext_get_or no_token (test_tokens l m) (ends xs) (long ∙ sym (length_ends xs ∙ count)) same
    where
      long : length (test_tokens l m) ≡ m
      long = length-map (range 0 (m - 0)) (test_token l m) ∙ length_range 0 (m - 0) ∙ sub-zero m

      same : (j : ℕ) → j < length (test_tokens l m) → get_or (test_tokens l m) j no_token ≡ get_or (ends xs) j no_token
      same j h =
          let i : j < m = omega (arith, long) in
          at_range no_token (test_token l m) 0 (m - 0) j (omega arith) ∙ rw (zero-add j) (sym (at_ends xs j (omega arith) ∙ rw (at j i, count)))

  pub test_is : whole (test_tokens l (test_count l g)) ≡ test l g
  unfolding ends
  test_is = ap whole (tests_at (test_count l g) (part 1 g l.tokens) count at)
    where
      count : length (part 1 g l.tokens) ≡ test_count l g
      count = length_part l.tokens 1 g ∙ omega arith

      at : (j : ℕ) → j < test_count l g → get_or (part 1 g l.tokens) j no_token ≡ token l (j + 1)
      at j h =
          let z : 1 + j ≡ j + 1 = omega arith in
          part_get no_token l.tokens 1 g j (omega arith) ∙ rw z
