-- The sum of a measure over a list.
--   sum f xs                                 f of each element, added up
--   sum_append, sum_map                      of two lists; of a list whose elements were changed
--   sum_halves                               of what stands before a place, and from it on
--   sum_filter                               of some elements
--   sum_on_first, sum_on_last, sum_on_one    one element changed
-- Assumes nothing.
use Prim.Native.Nat.{ℕ, ◌+◌, ◌≤◌}
use mathlib.Core.Path.{◌≡◌, sym, ap, ◌∙◌}
use mathlib.Core.Bool.{Bool}
use mathlib.Core.List.{List, [], ◌∷◌, ◌++◌, map}
use native.Mathlib.Omega.{arith}
use lib.ListN.{take, drop, take-append-drop}
use Rattle.definitions.specs.Lists.{filter, on_first, on_last, on_part}
use Rattle.loop_theory.proofs.Cases.{if_has}
use Rattle.loop_theory.proofs.Places.{on_part_one}

module _ {A : Type 0} (f : A → ℕ) where
  unfoldable pub sum : List A → ℕ
  sum [] = 0
  sum (x ∷ xs) = f x + sum xs

  pub sum_append : (xs ys : List A) → sum (xs ++ ys) ≡ sum xs + sum ys
  unfolding sum
  sum_append [] ys = omega arith
  sum_append (x ∷ xs) ys = omega (arith, sum_append xs ys)

  pub sum_map : (g : A → A) → ((x : A) → f (g x) ≤ f x) → (xs : List A) → sum (map g xs) ≤ sum xs
  unfolding sum
  sum_map g h [] = omega arith
  sum_map g h (x ∷ xs) = omega (arith, h x, sum_map g h xs)

  pub sum_halves : (n : ℕ) (xs : List A) → sum (take n xs) + sum (drop n xs) ≡ sum xs
  sum_halves n xs = sym (sum_append (take n xs) (drop n xs)) ∙ ap sum (take-append-drop n xs)

  pub sum_filter : (p : A → Bool) (xs : List A) → sum (filter p xs) ≤ sum xs
  unfolding sum filter
  sum_filter p [] = omega arith
  sum_filter p (x ∷ xs) =
      let rest = sum_filter p xs in
      if_has (λ ys. sum ys ≤ f x + sum xs) (p x) (λ _. omega arith) (λ _. omega arith)

  module _ (g : A → A) (n : ℕ) (grows : (x : A) → f (g x) ≤ f x + n) where
    pub sum_on_first : (xs : List A) → sum (on_first g xs) ≤ sum xs + n
    unfolding sum on_first
    sum_on_first [] = omega arith
    sum_on_first (x ∷ xs) = omega (arith, grows x)

    pub sum_on_last : (xs : List A) → sum (on_last g xs) ≤ sum xs + n
    unfolding sum on_last
    sum_on_last [] = omega arith
    sum_on_last (x ∷ []) = omega (arith, grows x)
    sum_on_last (x ∷ (y ∷ xs)) = omega (arith, sum_on_last (y ∷ xs))

    pub sum_on_one : (k : ℕ) (xs : List A) → sum (on_part k (k + 1) g xs) ≤ sum xs + n
    sum_on_one k xs = rw on_part_one (omega (arith, sum_append (take k xs) (on_first g (drop k xs)), sum_on_first (drop k xs), sum_halves k xs))
