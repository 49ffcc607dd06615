-- Tests of all or some elements from a place on, after changes of the list.
--   all_at                              the test holds of an element from that place on
--   all_drop, all_from                  it holds further behind
--   all_remove, all_set, all_on_part    it holds after a removal, a store, a changed part
--   any_same, position_same             two tests that agree on the elements find the same
-- Assumes nothing.
use Rattle.std.specs.Prelude.{Some}
use Rattle.std.specs.Option.{option_map}
use Prim.Native.Nat.{ℕ, zero, suc, ◌+◌, ◌-◌, ◌≤◌, ◌<◌}
use mathlib.Core.Path.{◌≡◌, refl, ap, ap₂, subst, ◌∙◌}
use mathlib.Core.List.{List, [], ◌∷◌, ◌++◌, map}
use mathlib.Core.Bool.{Bool, true, ◌||◌, cond}
use native.Mathlib.Omega.{arith}
use native.Mathlib.Numerals.{add-one}
use lib.ListN.{length, take, drop, get_or, set, length-take}
use lib.Seq.{drop-drop}
use Rattle.definitions.specs.Lists.{all, any, position, position_from, part, remove, on_part}
use Rattle.loop_theory.proofs.Cases.{and_split}

module _ {A : Type 0} (P : A → Bool) where
  pub all_at : (d : A) (i j : ℕ) (xs : List A) → all P (drop i xs) ≡ true → i ≤ j → j < length xs → P (get_or xs j d) ≡ true
  unfolding all
  all_at d i j [] h a b = absurd (omega arith)
  all_at d zero zero (x ∷ xs) h a b = (and_split (P x) (all P xs) h).0
  all_at d zero (suc j) (x ∷ xs) h a b = all_at d zero j xs (and_split (P x) (all P xs) h).1 (omega arith) (omega arith)
  all_at d (suc i) zero (x ∷ xs) h a b = absurd (omega arith)
  all_at d (suc i) (suc j) (x ∷ xs) h a b = all_at d i j xs h (omega arith) (omega arith)

  all_append : (xs ys : List A) → all P xs ≡ true → all P ys ≡ true → all P (xs ++ ys) ≡ true
  unfolding all
  all_append [] ys h k = k
  all_append (x ∷ xs) ys h k = rw (and_split (P x) (all P xs) h).0 (all_append xs ys (and_split (P x) (all P xs) h).1 k)

  pub all_drop : (a : ℕ) (xs : List A) → all P xs ≡ true → all P (drop a xs) ≡ true
  unfolding all
  all_drop zero xs h = h
  all_drop (suc a) [] h = refl
  all_drop (suc a) (x ∷ xs) h = all_drop a xs (and_split (P x) (all P xs) h).1

  all_take : (a : ℕ) (xs : List A) → all P xs ≡ true → all P (take a xs) ≡ true
  unfolding all
  all_take zero xs h = refl
  all_take (suc a) [] h = refl
  all_take (suc a) (x ∷ xs) h = rw (and_split (P x) (all P xs) h).0 (all_take a xs (and_split (P x) (all P xs) h).1)

  pub all_from : (i j : ℕ) (xs : List A) → all P (drop i xs) ≡ true → i ≤ j → all P (drop j xs) ≡ true
  all_from i j xs h le =
      let z : i + (j - i) ≡ j = omega arith in
      subst (λ ys. all P ys ≡ true) (drop-drop (j - i) i xs ∙ ap (λ n. drop n xs) z) (all_drop (j - i) (drop i xs) h)

  pub all_remove : (a k : ℕ) (xs : List A) → all P (drop a xs) ≡ true → all P (drop a (remove k xs)) ≡ true
  all_remove a k xs h = rw add-one (go a k xs h)
    where
      go : (a k : ℕ) (xs : List A) → all P (drop a xs) ≡ true → all P (drop a (take k xs ++ drop (suc k) xs)) ≡ true
      go a zero [] h = h
      go a (suc k) [] h = h
      go zero zero (x ∷ xs) h = all_drop 1 (x ∷ xs) h
      go (suc a) zero (x ∷ xs) h = all_from a (suc a) xs h (omega arith)
      go zero (suc k) (x ∷ xs) h = all_append (x ∷ take k xs) (drop (suc k) xs) (all_take (suc k) (x ∷ xs) h) (all_drop (suc (suc k)) (x ∷ xs) h)
      go (suc a) (suc k) (x ∷ xs) h = go a k xs h

  pub all_set : (a i : ℕ) (v : A) (xs : List A) → P v ≡ true → all P (drop a xs) ≡ true → all P (drop a (set xs i v)) ≡ true
  unfolding all
  all_set a i v [] q h = h
  all_set zero zero v (x ∷ xs) q h = rw q (and_split (P x) (all P xs) h).1
  all_set zero (suc i) v (x ∷ xs) q h = rw (and_split (P x) (all P xs) h).0 (all_set zero i v xs q (and_split (P x) (all P xs) h).1)
  all_set (suc a) zero v (x ∷ xs) q h = h
  all_set (suc a) (suc i) v (x ∷ xs) q h = all_set a i v xs q h

  all_past : (a : ℕ) (us ys : List A) → length us ≤ a → all P ys ≡ true → all P (drop a (us ++ ys)) ≡ true
  all_past a [] ys h k = all_drop a ys k
  all_past zero (u ∷ us) ys h k = absurd (omega arith)
  all_past (suc a) (u ∷ us) ys h k = all_past a us ys (omega arith) k

  module _ (Q : A → Bool) (f : A → A) (c : (x : A) → Q x ≡ true → P x ≡ true → P (f x) ≡ true) where
    all_map : (xs : List A) → all Q xs ≡ true → all P xs ≡ true → all P (map f xs) ≡ true
    unfolding all
    all_map [] q p = refl
    all_map (x ∷ xs) q p =
        let u = and_split (Q x) (all Q xs) q in
        let v = and_split (P x) (all P xs) p in
        rw (c x u.0 v.0) (all_map xs u.1 v.1)

    pub all_on_part : (b a e : ℕ) (xs : List A) → a ≤ e → all Q (part a e xs) ≡ true → all P (drop b xs) ≡ true → b ≤ a → all P (drop a (on_part a e f xs)) ≡ true
    all_on_part b a e xs le q p ba =
        let r = all_from b a xs p ba in
        all_past a (take a xs) (map f (part a e xs) ++ drop e xs) (rw length-take (omega arith))
        (all_append (map f (part a e xs)) (drop e xs) (all_map (part a e xs) q (all_take (e - a) (drop a xs) r)) (all_from a e xs r le))

    pub all_on_whole : (a e : ℕ) (xs : List A) → a ≤ e → all Q (part a e xs) ≡ true → all P xs ≡ true → all P (on_part a e f xs) ≡ true
    all_on_whole a e xs le q p =
        all_append (take a xs) (map f (part a e xs) ++ drop e xs) (all_take a xs p)
        (all_append (map f (part a e xs)) (drop e xs) (all_map (part a e xs) q (all_take (e - a) (drop a xs) (all_drop a xs p))) (all_drop e xs p))

-- Tests that agree

module _ {A : Type 0} (K p q : A → Bool) (same : (x : A) → K x ≡ true → p x ≡ q x) where
  pub any_same : (xs : List A) → all K xs ≡ true → any p xs ≡ any q xs
  unfolding any all
  any_same [] h = refl
  any_same (x ∷ xs) h = let u = and_split (K x) (all K xs) h in ap₂ ◌||◌ (same x u.0) (any_same xs u.1)

  pub any_part_same : (a e : ℕ) (xs : List A) → all K (drop a xs) ≡ true → any p (part a e xs) ≡ any q (part a e xs)
  any_part_same a e xs h = any_same (part a e xs) (all_take K (e - a) (drop a xs) h)

  position_all : (xs : List A) → all K xs ≡ true → position p xs ≡ position q xs
  unfolding position all
  position_all [] h = refl
  position_all (x ∷ xs) h =
      let u = and_split (K x) (all K xs) h in
      ap₂ (λ b o. cond b (Some 0) (option_map suc o)) (same x u.0) (position_all xs u.1)

  pub position_same : (a : ℕ) (xs : List A) → all K (drop a xs) ≡ true → position_from a p xs ≡ position_from a q xs
  position_same a xs h = ap (option_map (a +◌)) (position_all (drop a xs) h)
