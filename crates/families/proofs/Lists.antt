-- Laws of lists.
--   any_snoc, member_snoc, count_snoc    a test over a list with one more at its end
--   filter_same                tests that agree on the members of a list
--   range_snoc                 a range with one more at its end
--   map_within                 functions that agree below n, of a list whose elements are below n
--   fill_start, fill_rest      a list that is filled from the front: before the first store, and what is not filled yet
-- Assumes nothing.
use Prim.Native.Nat.{ℕ, zero, suc, ◌+◌, ◌<◌, ◌≤◌}
use mathlib.Core.Path.{◌≡◌, refl, sym, ap, ap₂, ◌∙◌}
use mathlib.Core.Logic.{◌⊎◌, inl, inr}
use mathlib.Core.Bool.{Bool, true, false, cond, ◌||◌, or-false, or_assoc}
use mathlib.Core.List.{List, [], ◌∷◌, ◌++◌, map}
use native.Mathlib.Omega.{arith}
use native.Mathlib.Nat.{add-zero}
use lib.Dec.{eqb}
use borrow.Author.Tests.{eqb-true}
use lib.ListN.{length, get_or, take, drop, length-map}
use lib.Seq.{length-take-le, get_or-append-add, get_or-drop}
use Rattle.definitions.specs.Lists.{any, filter, count, range, member}
use Rattle.theory.proofs.Bools.{or_cases}
use Rattle.theory.proofs.ListLaws.{member_head, member_tail}
use Rattle.text.proofs.Fills.{filled}

-- Members

pub any_snoc : {A : Type 0} (p : A → Bool) (xs : List A) (x : A) → any p (xs ++ (x ∷ [])) ≡ (any p xs || p x)
unfolding any
any_snoc p [] x = or-false (p x)
any_snoc p (y ∷ xs) x = ap (p y ||◌) (any_snoc p xs x) ∙ sym (or_assoc (p y) (any p xs) (p x))

pub member_snoc : (x y : ℕ) (ds : List ℕ) → member x (ds ++ (y ∷ [])) ≡ true → (member x ds ≡ true) ⊎ (x ≡ y)
member_snoc x y ds m = elim (or_cases (member x ds) (eqb x y) (sym (any_snoc (eqb x) ds y) ∙ m)) [ inl e ↦ inl e | inr e ↦ inr (eqb-true x y e) ]

pub filter_same : (p q : ℕ → Bool) (xs : List ℕ) → ((x : ℕ) → member x xs ≡ true → p x ≡ q x) → filter p xs ≡ filter q xs
unfolding filter
filter_same p q [] h = refl
filter_same p q (x ∷ xs) h =
    ap₂ (λ (b : Bool) (rest : List ℕ). cond b (x ∷ rest) rest) (h x (member_head x xs)) (filter_same p q xs (λ y m. h y (member_tail y x xs m)))

pub count_snoc : {A : Type 0} (p : A → Bool) (xs : List A) (x : A) → count p (xs ++ (x ∷ [])) ≡ count p xs + cond (p x) 1 0
unfolding filter
count_snoc p [] x = go (p x)
  where
    go : (b : Bool) → length (cond b (x ∷ []) []) ≡ 0 + cond b 1 0
    go true = refl
    go false = refl
count_snoc p (y ∷ xs) x = go (p y) (count_snoc p xs x)
  where
    go : (b : Bool) → length (filter p (xs ++ (x ∷ []))) ≡ length (filter p xs) + cond (p x) 1 0
        → length (cond b (y ∷ filter p (xs ++ (x ∷ []))) (filter p (xs ++ (x ∷ [])))) ≡ length (cond b (y ∷ filter p xs) (filter p xs)) + cond (p x) 1 0
    go true e = omega arith
    go false e = e

pub range_snoc : (a n : ℕ) → range a (suc n) ≡ range a n ++ ((a + n) ∷ [])
unfolding range
range_snoc a zero = rw (add-zero a)
range_snoc a (suc n) = ap (a ∷◌) (range_snoc (suc a) n ∙ ap (λ (x : ℕ). range (suc a) n ++ (x ∷ [])) (omega arith))

-- Maps

pub map_within : (f g : ℕ → ℕ) (n : ℕ) → ((x : ℕ) → x < n → f x ≡ g x) → (xs : List ℕ) → ((d : ℕ) → d < length xs → get_or xs d 0 < n) → map f xs ≡ map g xs
map_within f g n h [] w = refl
map_within f g n h (x ∷ xs) w = ap₂ (λ (y : ℕ) (ys : List ℕ). y ∷ ys) (h x (w 0 (omega arith))) (map_within f g n h xs (λ d l. w (suc d) (omega arith)))

-- Filled lists

pub fill_start : {A : Type 0} (f : A → ℕ) (xs : List A) (d : List ℕ) → d ≡ filled f xs d 0
unfolding filled
fill_start f xs d = refl

pub fill_rest : {A : Type 0} (f : A → ℕ) (xs : List A) (d o : List ℕ) (i : ℕ) → o ≡ filled f xs d i → i ≤ length xs → get_or o i 0 ≡ get_or d i 0
unfolding filled
fill_rest f xs d o i e h =
    let l : length (take i (map f xs)) ≡ i = length-take-le i (map f xs) (rw length-map h) in
    let z : length (take i (map f xs)) + 0 ≡ i = omega arith in
    rw e (ap (λ (k : ℕ). get_or (take i (map f xs) ++ drop i d) k 0) (sym z) ∙ get_or-append-add (take i (map f xs)) (drop i d) 0 0 ∙ get_or-drop i d 0 0 ∙ ap (λ (k : ℕ). get_or d k 0) (add-zero i))
