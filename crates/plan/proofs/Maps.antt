-- A list whose elements are each made of another's: changes at places pass through.
--   map_append, map_take, map_drop, map_part, map_remove, map_set    parts and changes
--   map_all, map_any, map_position, map_position_from                                            tests
--   map_on_part                                                      a changed part, where the change is known of elements that pass a test
-- Assumes nothing.
use Rattle.std.specs.Prelude.{Some}
use Rattle.std.specs.Option.{option_map}
use Prim.Native.Nat.{ℕ, zero, suc, ◌+◌, ◌-◌}
use mathlib.Core.Path.{◌≡◌, refl, sym, ap, ap₂, ◌∙◌}
use mathlib.Core.List.{List, [], ◌∷◌, ◌++◌, map}
use mathlib.Core.Bool.{Bool, true, ◌&&◌, ◌||◌, cond}
use lib.ListN.{take, drop, set}
use Rattle.definitions.specs.Lists.{part, all, any, position, position_from, remove, on_part}
use Rattle.loop_theory.proofs.Cases.{and_split}

module _ {A B : Type 0} (g : A → B) where
  pub map_append : (xs ys : List A) → map g (xs ++ ys) ≡ map g xs ++ map g ys
  map_append [] ys = refl
  map_append (x ∷ xs) ys = ap (λ zs. g x ∷ zs) (map_append xs ys)

  pub map_take : (n : ℕ) (xs : List A) → map g (take n xs) ≡ take n (map g xs)
  map_take zero xs = refl
  map_take (suc n) [] = refl
  map_take (suc n) (x ∷ xs) = ap (λ zs. g x ∷ zs) (map_take n xs)

  pub map_drop : (n : ℕ) (xs : List A) → map g (drop n xs) ≡ drop n (map g xs)
  map_drop zero xs = refl
  map_drop (suc n) [] = refl
  map_drop (suc n) (x ∷ xs) = map_drop n xs

  pub map_part : (a e : ℕ) (xs : List A) → map g (part a e xs) ≡ part a e (map g xs)
  map_part a e xs = map_take (e - a) (drop a xs) ∙ ap (take (e - a)) (map_drop a xs)

  pub map_remove : (i : ℕ) (xs : List A) → map g (remove i xs) ≡ remove i (map g xs)
  map_remove i xs = map_append (take i xs) (drop (i + 1) xs) ∙ ap₂ ◌++◌ (map_take i xs) (map_drop (i + 1) xs)

  pub map_set : (i : ℕ) (v : A) (xs : List A) → map g (set xs i v) ≡ set (map g xs) i (g v)
  map_set i v [] = refl
  map_set zero v (x ∷ xs) = refl
  map_set (suc i) v (x ∷ xs) = ap (λ zs. g x ∷ zs) (map_set i v xs)

  pub map_all : (p : B → Bool) (xs : List A) → all p (map g xs) ≡ all (λ x. p (g x)) xs
  unfolding all
  map_all p [] = refl
  map_all p (x ∷ xs) = ap (λ b. p (g x) && b) (map_all p xs)

  pub map_any : (p : B → Bool) (xs : List A) → any p (map g xs) ≡ any (λ x. p (g x)) xs
  unfolding any
  map_any p [] = refl
  map_any p (x ∷ xs) = ap (λ b. p (g x) || b) (map_any p xs)

  pub map_position : (p : B → Bool) (xs : List A) → position p (map g xs) ≡ position (λ x. p (g x)) xs
  unfolding position
  map_position p [] = refl
  map_position p (x ∷ xs) = ap (λ o. cond (p (g x)) (Some 0) (option_map suc o)) (map_position p xs)

  pub map_position_from : (k : ℕ) (p : B → Bool) (xs : List A) → position_from k p (map g xs) ≡ position_from k (λ x. p (g x)) xs
  map_position_from k p xs = ap (λ ys. option_map (k +◌) (position p ys)) (sym (map_drop k xs)) ∙ ap (option_map (k +◌)) (map_position p (drop k xs))

  module _ (q : A → Bool) (f : A → A) (h : B → B) (e : (x : A) → q x ≡ true → g (f x) ≡ h (g x)) where
    map_both : (xs : List A) → all q xs ≡ true → map g (map f xs) ≡ map h (map g xs)
    unfolding all
    map_both [] k = refl
    map_both (x ∷ xs) k = ap₂ (λ y ys. y ∷ ys) (e x (and_split (q x) (all q xs) k).0) (map_both xs (and_split (q x) (all q xs) k).1)

    pub map_on_part : (a e : ℕ) (xs : List A) → all q (part a e xs) ≡ true → map g (on_part a e f xs) ≡ on_part a e h (map g xs)
    map_on_part a e xs k =
        map_append (take a xs) (map f (part a e xs) ++ drop e xs)
        ∙ ap₂ ◌++◌ (map_take a xs)
        (map_append (map f (part a e xs)) (drop e xs) ∙ ap₂ ◌++◌ (map_both (part a e xs) k ∙ ap (map h) (map_part a e xs)) (map_drop e xs))
