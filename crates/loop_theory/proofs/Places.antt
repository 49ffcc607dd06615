-- A list taken apart at places, and changes at these places.
--   from_place             the list from place a on is the part up to place k, the element at k, and what stands behind
--   two_places             the list is taken apart at two places
--   remove_there, on_part_there, on_part_one, set_second, remove_second, on_part_between
--                          changes of a list that is taken apart where it is changed
--   position_from_inside, last_position_inside
--                          what is found stands in the list
--   position_splits        a list taken apart at the first element that passes
-- Assumes nothing.
use Rattle.std.specs.Prelude.{Some}
use Rattle.std.specs.Option.{option_map}
use Prim.Native.Nat.{ℕ, suc, ◌+◌, ◌-◌, ◌≤◌, ◌<◌}
use mathlib.Core.Path.{◌≡◌, refl, sym, ap, ap₂, ◌∙◌}
use mathlib.Core.Bool.{Bool, true, false, cond, not}
use mathlib.Core.List.{List, [], ◌∷◌, ◌++◌, map, append_assoc}
use native.Mathlib.Omega.{arith}
use lib.ListN.{length, take, drop, get_or, set, length-append, length-drop, take-append-drop}
use lib.Seq.{split_at, drop-cons, drop-drop, length-take-le, take_at, drop_at, set_at}
use Rattle.definitions.specs.Lists.{position, position_from, last_position, take_while, part, remove, on_first, on_part}
use Rattle.loop_theory.proofs.Cases.{none_some, some_same, if_has, case_has, IfSome, map_has}

module _ {A : Type 0} where
  -- Taking apart

  pub from_place : (d : A) (a k : ℕ) (xs : List A) → a ≤ k → k < length xs → drop a xs ≡ part a k xs ++ (get_or xs k d ∷ drop (suc k) xs)
  from_place d a k xs le lt =
      let there : a + (k - a) ≡ k = omega arith in
      sym (take-append-drop (k - a) (drop a xs))
      ∙ ap (λ ys. part a k xs ++ ys) (drop-drop (k - a) a xs ∙ (ap (λ n. drop n xs) there ∙ drop-cons xs k d lt))

  pub length_part : (a k : ℕ) (xs : List A) → k ≤ length xs → length (part a k xs) ≡ k - a
  length_part a k xs le = length-take-le (k - a) (drop a xs) (rw length-drop (omega arith))

  -- Changes

  pub remove_there : (p : List A) (x : A) (xs : List A) (k : ℕ) → length p ≡ k → remove k (p ++ (x ∷ xs)) ≡ p ++ xs
  remove_there p x xs k e =
      ap₂ (λ a b. a ++ b) (take_at p (x ∷ xs) k e)
      (ap (drop (k + 1)) (sym (append_assoc p (x ∷ []) xs)) ∙ drop_at (p ++ (x ∷ [])) xs (k + 1) (length-append p (x ∷ []) ∙ ap (λ n. n + 1) e))

  pub on_part_there : (f : A → A) (p q xs : List A) (a e : ℕ) → length p ≡ a → length p + length q ≡ e
      → on_part a e f (p ++ (q ++ xs)) ≡ p ++ (map f q ++ xs)
  on_part_there f p q xs a e la le =
      let from : drop a (p ++ (q ++ xs)) ≡ q ++ xs = drop_at p (q ++ xs) a la in
      let past : drop e (p ++ (q ++ xs)) ≡ xs = ap (drop e) (sym (append_assoc p q xs)) ∙ drop_at (p ++ q) xs e (length-append p q ∙ le) in
      ap₂ (λ x y. x ++ y) (take_at p (q ++ xs) a la)
      (ap₂ (λ x y. map f x ++ y) (ap (take (e - a)) from ∙ take_at q xs (e - a) (omega arith)) past)

  pub on_part_one : (f : A → A) (k : ℕ) (xs : List A) → on_part k (k + 1) f xs ≡ take k xs ++ on_first f (drop k xs)
  unfolding on_first
  on_part_one f k xs =
      let one : k + 1 - k ≡ 1 = omega arith in
      ap (λ ys. take k xs ++ ys) (ap₂ (λ n ys. map f (take n (drop k xs)) ++ ys) one (sym (drop-drop 1 k xs)) ∙ start (drop k xs))
    where
      start : (ys : List A) → map f (take 1 ys) ++ drop 1 ys ≡ on_first f ys
      start [] = refl
      start (y ∷ ys) = refl

  -- Two places h < b: what stands before, at, between, at and behind them. The element at b and those between are changed.

  pub two_places : (d : A) (h b : ℕ) (xs : List A) → h < b → b < length xs
      → xs ≡ take h xs ++ (get_or xs h d ∷ (part (suc h) b xs ++ (get_or xs b d ∷ drop (suc b) xs)))
  two_places d h b xs hb bl =
      split_at xs h d (omega arith) ∙ ap (λ ys. take h xs ++ (get_or xs h d ∷ ys)) (from_place d (suc h) b xs hb bl)

  pub set_second : (p q xs : List A) (x y v : A) (b : ℕ) → length p + suc (length q) ≡ b
      → set (p ++ (x ∷ (q ++ (y ∷ xs)))) b v ≡ p ++ (x ∷ (q ++ (v ∷ xs)))
  set_second p q xs x y v b e =
      ap (λ ys. set ys b v) (sym (append_assoc p (x ∷ q) (y ∷ xs)))
      ∙ (set_at (p ++ (x ∷ q)) y xs v b (length-append p (x ∷ q) ∙ e) ∙ append_assoc p (x ∷ q) (v ∷ xs))

  pub remove_second : (p q xs : List A) (x y : A) (b : ℕ) → length p + suc (length q) ≡ b
      → remove b (p ++ (x ∷ (q ++ (y ∷ xs)))) ≡ p ++ (x ∷ (q ++ xs))
  remove_second p q xs x y b e =
      ap (remove b) (sym (append_assoc p (x ∷ q) (y ∷ xs)))
      ∙ (remove_there (p ++ (x ∷ q)) y xs b (length-append p (x ∷ q) ∙ e) ∙ append_assoc p (x ∷ q) xs)

  pub on_part_between : (f : A → A) (p q xs : List A) (x : A) (h b : ℕ) → length p ≡ h → length p + suc (length q) ≡ b
      → on_part (h + 1) b f (p ++ (x ∷ (q ++ xs))) ≡ p ++ (x ∷ (map f q ++ xs))
  on_part_between f p q xs x h b lh lb =
      let l = length-append p (x ∷ []) in
      ap (on_part (h + 1) b f) (sym (append_assoc p (x ∷ []) (q ++ xs)))
      ∙ (on_part_there f (p ++ (x ∷ [])) q xs (h + 1) b (omega arith) (omega arith) ∙ append_assoc p (x ∷ []) (map f q ++ xs))

  -- Searching

  module _ (p : A → Bool) where
    position_inside : (xs : List A) → IfSome (λ k. k < length xs) (position p xs)
    unfolding position
    position_inside [] = λ k e. none_some e
    position_inside (x ∷ xs) =
        if_has (IfSome (λ k. k < suc (length xs))) (p x) (λ _ k e. let here = some_same e in omega arith)
        (λ _. map_has (λ k. k < length xs) (λ k. k < suc (length xs)) suc (λ j h. omega arith) (position p xs) (position_inside xs))

    pub position_from_inside : (a : ℕ) (xs : List A) → IfSome (λ k. (a ≤ k) × (k < length xs)) (position_from a p xs)
    position_from_inside a xs =
        let l = length-drop a xs in
        map_has (λ k. k < length (drop a xs)) (λ k. (a ≤ k) × (k < length xs)) (a +◌) (λ j h. omega arith)
        (position p (drop a xs)) (position_inside (drop a xs))

    pub last_position_inside : (xs : List A) → IfSome (λ k. k < length xs) (last_position p xs)
    unfolding last_position
    last_position_inside [] = λ k e. none_some e
    last_position_inside (x ∷ xs) =
        case_has (IfSome (λ k. k < suc (length xs))) (last_position p xs)
        (if_has (IfSome (λ k. k < suc (length xs))) (p x) (λ _ k e. let here = some_same e in omega arith) (λ _ k e. none_some e))
        (λ j later k e. let there = some_same e in omega (arith, last_position_inside xs j later))

    pub take_while_shorter : (xs : List A) → length (take_while p xs) ≤ length xs
    unfolding take_while
    take_while_shorter [] = omega arith
    take_while_shorter (x ∷ xs) =
        let shorter = take_while_shorter xs in
        if_has (λ (ys : List A). length ys ≤ suc (length xs)) (p x) (λ _. omega arith) (λ _. omega arith)

    -- what stands before the first that passes, that one, and the rest
    pub position_splits : (xs : List A)
        → IfSome (λ k. (x : A) × (p x ≡ true) × (xs ≡ take_while (λ y. not (p y)) xs ++ (x ∷ drop (suc k) xs))) (position p xs)
    unfolding position take_while
    position_splits [] = λ k e. none_some e
    position_splits (x ∷ xs) = go (p x) refl (position_splits xs)
      where
        go : (b : Bool) → p x ≡ b
            → IfSome (λ k. (y : A) × (p y ≡ true) × (xs ≡ take_while (λ y. not (p y)) xs ++ (y ∷ drop (suc k) xs))) (position p xs)
            → IfSome (λ k. (y : A) × (p y ≡ true) × (x ∷ xs ≡ cond (not b) (x ∷ take_while (λ y. not (p y)) xs) [] ++ (y ∷ drop k xs)))
            (cond b (Some 0) (option_map suc (position p xs)))
        go true passes r = λ k e. (x, passes, ap (λ n. x ∷ drop n xs) (some_same e))
        go false passes r =
            map_has _ (λ k. (y : A) × (p y ≡ true) × (x ∷ xs ≡ x ∷ (take_while (λ y. not (p y)) xs ++ (y ∷ drop k xs)))) suc
            (λ j s. (s.0, s.1, ap (λ ys. x ∷ ys) s.2)) (position p xs) r
