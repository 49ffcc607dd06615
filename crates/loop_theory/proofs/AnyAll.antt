-- Tests of all elements of a list.
--   none-*    no element passes: of joined lists, of a changed list, of a weaker test
--   all-*     every element passes: of joined lists, of halves, of a changed or filtered list, with the first or the last element changed
-- Assumes nothing.
use Rattle.std.specs.Prelude.{Some}
use Prim.Native.Nat.{ℕ}
use mathlib.Core.Path.{◌≡◌, refl}
use mathlib.Core.Bool.{Bool, true, false, ◌&&◌, ◌||◌}
use mathlib.Core.List.{List, [], ◌∷◌, ◌++◌, map}
use lib.ListN.{take, drop, take-append-drop}
use Rattle.definitions.specs.Lists.{any, all, filter, first, last, on_first, on_last}
use Rattle.loop_theory.proofs.Cases.{and_split, or_split, if_has}

neither : {a b : Bool} → a ≡ false → b ≡ false → (a || b) ≡ false
neither p q = rw (p, q)

pub both : {a b : Bool} → a ≡ true → b ≡ true → (a && b) ≡ true
both p q = rw (p, q)

module _ {A : Type 0} (p : A → Bool) where
  pub none_append : (xs ys : List A) → any p xs ≡ false → any p ys ≡ false → any p (xs ++ ys) ≡ false
  unfolding any
  none_append [] ys h k = k
  none_append (x ∷ xs) ys h k = let s = or_split (p x) (any p xs) h in neither s.0 (none_append xs ys s.1 k)

  pub none_cons : (x : A) (xs : List A) → p x ≡ false → any p xs ≡ false → any p (x ∷ xs) ≡ false
  unfolding any
  none_cons x xs h k = neither h k

  pub none_split : (xs ys : List A) → any p (xs ++ ys) ≡ false → (any p xs ≡ false) × (any p ys ≡ false)
  unfolding any
  none_split [] ys h = (refl, h)
  none_split (x ∷ xs) ys h =
      let s = or_split (p x) (any p (xs ++ ys)) h in
      let r = none_split xs ys s.1 in
      (neither s.0 r.0, r.1)

  pub none_map : (f : A → A) → ((x : A) → p (f x) ≡ false) → (xs : List A) → any p (map f xs) ≡ false
  unfolding any
  none_map f h [] = refl
  none_map f h (x ∷ xs) = neither (h x) (none_map f h xs)

  pub none_weaker : (q : A → Bool) → ((x : A) → q x ≡ false → p x ≡ false) → (xs : List A) → any q xs ≡ false → any p xs ≡ false
  unfolding any
  none_weaker q h [] k = refl
  none_weaker q h (x ∷ xs) k = let s = or_split (q x) (any q xs) k in neither (h x s.0) (none_weaker q h xs s.1)

  pub all_cons : (x : A) (xs : List A) → all p (x ∷ xs) ≡ true → (p x ≡ true) × (all p xs ≡ true)
  unfolding all
  all_cons x xs h = and_split (p x) (all p xs) h

  pub all_and : (x : A) (xs : List A) → p x ≡ true → all p xs ≡ true → all p (x ∷ xs) ≡ true
  unfolding all
  all_and x xs h k = both h k

  pub all_nil : all p [] ≡ true
  unfolding all
  all_nil = refl

  pub all_append : (xs ys : List A) → all p xs ≡ true → all p ys ≡ true → all p (xs ++ ys) ≡ true
  unfolding all
  all_append [] ys h k = k
  all_append (x ∷ xs) ys h k = let s = all_cons x xs h in both s.0 (all_append xs ys s.1 k)

  pub all_split : (xs ys : List A) → all p (xs ++ ys) ≡ true → (all p xs ≡ true) × (all p ys ≡ true)
  unfolding all
  all_split [] ys h = (refl, h)
  all_split (x ∷ xs) ys h = let s = all_cons x (xs ++ ys) h in let r = all_split xs ys s.1 in (both s.0 r.0, r.1)

  pub all_halves : (n : ℕ) (xs : List A) → all p xs ≡ true → (all p (take n xs) ≡ true) × (all p (drop n xs) ≡ true)
  all_halves n xs h = all_split (take n xs) (drop n xs) (rw take-append-drop h)

  pub all_map : (q : A → Bool) (f : A → A) → ((x : A) → q x ≡ true → p (f x) ≡ true) → (xs : List A) → all q xs ≡ true → all p (map f xs) ≡ true
  unfolding all
  all_map q f h [] k = refl
  all_map q f h (x ∷ xs) k = let s = and_split (q x) (all q xs) k in both (h x s.0) (all_map q f h xs s.1)

  pub all_filter : (q : A → Bool) (xs : List A) → all p xs ≡ true → all p (filter q xs) ≡ true
  unfolding all filter
  all_filter q [] h = refl
  all_filter q (x ∷ xs) h =
      let s = all_cons x xs h in
      let rest = all_filter q xs s.1 in
      if_has (λ ys. all p ys ≡ true) (q x) (λ _. both s.0 rest) (λ _. rest)

  pub all_on_first : (f : A → A) (xs : List A) → ((x : A) → first xs ≡ Some x → p x ≡ true → p (f x) ≡ true)
      → all p xs ≡ true → all p (on_first f xs) ≡ true
  unfolding all on_first
  all_on_first f [] h k = refl
  all_on_first f (x ∷ xs) h k = let s = all_cons x xs k in both (h x refl s.0) s.1

  pub all_on_last : (f : A → A) (xs : List A) → ((x : A) → last xs ≡ Some x → p x ≡ true → p (f x) ≡ true)
      → all p xs ≡ true → all p (on_last f xs) ≡ true
  unfolding all on_last last
  all_on_last f [] h k = refl
  all_on_last f (x ∷ []) h k = let s = all_cons x [] k in both (h x refl s.0) s.1
  all_on_last f (x ∷ (y ∷ xs)) h k = let s = all_cons x (y ∷ xs) k in both s.0 (all_on_last f (y ∷ xs) h s.1)

  pub all_both : (q : A → Bool) (xs : List A) → all p xs ≡ true → all q xs ≡ true → all (λ x. p x && q x) xs ≡ true
  unfolding all
  all_both q [] h k = refl
  all_both q (x ∷ xs) h k =
      let s = all_cons x xs h in
      let r = and_split (q x) (all q xs) k in
      both (both s.0 r.0) (all_both q xs s.1 r.1)
