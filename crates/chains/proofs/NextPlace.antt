-- The next place of a family.
--   gap_most, gap_holds, gap_before, gap_is      the first element that p holds of
--   next_yes, next_no, next_end                  the next place, by the token at hand
--   next_most, next_named, next_skips            it stands inside or at the end, names the family, and no token before it does
-- Assumes nothing.
use Prim.Native.Nat.{ℕ, zero, suc, ◌+◌, ◌-◌, ◌<◌, ◌≤◌}
use mathlib.Core.Path.{◌≡◌, refl, sym, ap, ◌∙◌}
use mathlib.Core.Bool.{Bool, true, false, cond}
use mathlib.Core.List.{List, [], ◌∷◌}
use native.Mathlib.Omega.{arith}
use lib.ListN.{length, get_or, drop, length-drop}
use lib.Seq.{get_or-drop}
use Rattle.definitions.specs.Model.{Token, no_token}
use Rattle.definitions.specs.Family.{names}
use Rattle.text.proofs.Parts.{drop_step}
use Rattle.chains.specs.Chains.{gap, next_place}

module _ {A : Type 0} (p : A → Bool) (d : A) where
  pub gap_most : (xs : List A) → gap p xs ≤ length xs
  unfolding gap
  gap_most [] = omega arith
  gap_most (x ∷ xs) = go (p x) (gap_most xs)
    where
      go : (b : Bool) → gap p xs ≤ length xs → cond b 0 (suc (gap p xs)) ≤ suc (length xs)
      go true h = omega arith
      go false h = omega arith

  pub gap_holds : (xs : List A) → gap p xs < length xs → p (get_or xs (gap p xs) d) ≡ true
  unfolding gap
  gap_holds [] h = absurd (omega arith)
  gap_holds (x ∷ xs) h = go (p x) refl (gap_holds xs) h
    where
      go : (b : Bool) → p x ≡ b → (gap p xs < length xs → p (get_or xs (gap p xs) d) ≡ true) → cond b 0 (suc (gap p xs)) < suc (length xs) → p (get_or (x ∷ xs) (cond b 0 (suc (gap p xs))) d) ≡ true
      go true e r h = e
      go false e r h = r (omega arith)

  pub gap_before : (xs : List A) (q : ℕ) → q < gap p xs → p (get_or xs q d) ≡ false
  unfolding gap
  gap_before [] q h = absurd (omega arith)
  gap_before (x ∷ xs) q h = go (p x) refl (gap_before xs) q h
    where
      go : (b : Bool) → p x ≡ b → ((q : ℕ) → q < gap p xs → p (get_or xs q d) ≡ false) → (q : ℕ) → q < cond b 0 (suc (gap p xs)) → p (get_or (x ∷ xs) q d) ≡ false
      go true e r q h = absurd (omega arith)
      go false e r zero h = e
      go false e r (suc q) h = r q (omega arith)

  pub gap_is : (xs : List A) (i : ℕ) → i < length xs → ((q : ℕ) → q < i → p (get_or xs q d) ≡ false) → p (get_or xs i d) ≡ true → gap p xs ≡ i
  unfolding gap
  gap_is [] i h b e = absurd (omega arith)
  gap_is (x ∷ xs) zero h b e = rw e
  gap_is (x ∷ xs) (suc i) h b e = rw (b 0 (omega arith)) (ap suc (gap_is xs i (omega arith) (λ q g. b (suc q) (omega arith)) e))

module _ (f : List ℕ) (ts : List Token) (a : ℕ) where
  pub next_yes : a < length ts → names f (get_or ts a no_token) ≡ true → next_place f ts a ≡ a
  unfolding next_place gap
  next_yes h e = rw (drop_step no_token ts a h, e) (omega arith)

  pub next_no : a < length ts → names f (get_or ts a no_token) ≡ false → next_place f ts a ≡ next_place f ts (a + 1)
  unfolding next_place gap
  next_no h e = rw (drop_step no_token ts a h, e) (omega arith)

  pub next_above : a ≤ next_place f ts a
  unfolding next_place
  next_above = omega arith

  pub next_most : a ≤ length ts → next_place f ts a ≤ length ts
  unfolding next_place
  next_most h = omega (arith, gap_most (names f) no_token (drop a ts), length-drop a ts)

  pub next_named : next_place f ts a < length ts → names f (get_or ts (next_place f ts a) no_token) ≡ true
  unfolding next_place
  next_named h = rw (← (get_or-drop a ts (gap (names f) (drop a ts)) no_token)) (gap_holds (names f) no_token (drop a ts) (omega (arith, length-drop a ts)))

  pub next_skips : (q : ℕ) → a ≤ q → q < next_place f ts a → names f (get_or ts q no_token) ≡ false
  unfolding next_place
  next_skips q h g =
      let z : a + (q - a) ≡ q = omega arith in
      ap (λ (r : ℕ). names f (get_or ts r no_token)) (sym z) ∙ ap (names f) (sym (get_or-drop a ts (q - a) no_token)) ∙ gap_before (names f) no_token (drop a ts) (q - a) (omega arith)

-- the number of tokens, where none is left
pub next_end : (f : List ℕ) (ts : List Token) → next_place f ts (length ts) ≡ length ts
next_end f ts = omega (arith, next_above f ts (length ts), next_most f ts (length ts) (omega arith))
