-- The split points, line by line.
--   split_key_is       how many split points of f there are up to and with line i, counted over the lines
--   split_starts_is    line i is one of them
-- Assumes nothing.
use Rattle.std.specs.Prelude.{Option, None, Some}
use Rattle.std.specs.Option.{option_map}
use Prim.Native.Nat.{ℕ, zero, suc, ◌+◌, ◌-◌, ◌<◌, ◌≤◌}
use mathlib.Core.Path.{◌≡◌, refl, sym, ap, ◌∙◌, fun_ext}
use mathlib.Core.Logic.{inl, inr}
use mathlib.Core.Bool.{Bool, true, false, cond, ◌&&◌, ◌||◌, not, and-false, and-true}
use mathlib.Core.List.{List, [], ◌∷◌, ◌++◌, map}
use native.Mathlib.Omega.{arith}
use borrow.Author.Tests.{eq-eqb, eqb-true, le-leb, lt-leb}
use lib.Dec.{eqb, leb}
use lib.ListN.{length}
use Rattle.definitions.specs.Lists.{to_list, any, filter, count, concat, range, up_to, ◌≟◌}
use Rattle.definitions.specs.Model.{Line, line}
use Rattle.definitions.specs.Statements.{defines}
use Rattle.definitions.specs.Recover.{from_line_1}
use Rattle.definitions.specs.SplitPoints.{Split, all_jumps, crosses, split_points, split_key, split_starts}
use Rattle.theory.proofs.Bools.{clash, same_test, and_both, and_split, lt_or_ge}
use Rattle.theory.proofs.ListLaws.{any_found, any_here, range_member}
use Rattle.families.specs.Families.{defined_at}
use Rattle.splits.specs.Starts.{start_at, starts}

-- Options one after the other

abbrev passes : {A : Type 0} → (A → Bool) → Option A → Bool
passes p None = false
passes p (Some x) = p x

module _ {A : Type 0} (p : A → Bool) (o : ℕ → Option A) where
  count_options : (ks : List ℕ) → count p (concat (map (λ k. to_list (o k)) ks)) ≡ count (λ k. passes p (o k)) ks
  unfolding concat filter
  count_options [] = refl
  count_options (k ∷ ks) = go (o k) (count_options ks)
    where
      rest : List A
      rest = concat (map (λ k. to_list (o k)) ks)

      go : (x : Option A) → count p rest ≡ count (λ k. passes p (o k)) ks
          → count p (to_list x ++ rest) ≡ length (cond (passes p x) (k ∷ filter (λ k. passes p (o k)) ks) (filter (λ k. passes p (o k)) ks))
      go None e = e
      go (Some x) e = one (p x)
        where
          one : (b : Bool) → length (cond b (x ∷ filter p rest) (filter p rest)) ≡ length (cond b (k ∷ filter (λ k. passes p (o k)) ks) (filter (λ k. passes p (o k)) ks))
          one true = ap suc e
          one false = e

  any_options : (ks : List ℕ) → any p (concat (map (λ k. to_list (o k)) ks)) ≡ any (λ k. passes p (o k)) ks
  unfolding concat any
  any_options [] = refl
  any_options (k ∷ ks) = go (o k) (any_options ks)
    where
      rest : List A
      rest = concat (map (λ k. to_list (o k)) ks)

      go : (x : Option A) → any p rest ≡ any (λ k. passes p (o k)) ks → any p (to_list x ++ rest) ≡ (passes p x || any (λ k. passes p (o k)) ks)
      go None e = e
      go (Some x) e = ap (p x ||◌) e

-- The split points of the lines from 1 on

module _ (L : List Line) where
  abbrev split : ℕ → List ℕ → Split
  split k f = record { at = k; family = f }

  abbrev point : ℕ → Option Split
  point k = option_map (split k) (start_at L k)

  points_from : (a n : ℕ)
      → concat (map (λ k. to_list (option_map (split k) (defines (line L k)))) (filter (λ k. eqb (line L k).indent 1 && not (any (crosses k) (all_jumps L))) (range (suc a) n)))
      ≡ concat (map (λ k. to_list (point k)) (range (suc a) n))
  unfolding concat filter range start_at defined_at
  points_from a zero = refl
  points_from a (suc n) = go (eqb (line L (suc a)).indent 1 && not (any (crosses (suc a)) (all_jumps L))) (points_from (suc a) n)
    where
      test : ℕ → Bool
      test k = eqb (line L k).indent 1 && not (any (crosses k) (all_jumps L))

      found : ℕ → List Split
      found k = to_list (option_map (split k) (defines (line L k)))

      go : (b : Bool) → concat (map found (filter test (range (suc (suc a)) n))) ≡ concat (map (λ k. to_list (point k)) (range (suc (suc a)) n))
          → concat (map found (cond b (suc a ∷ filter test (range (suc (suc a)) n)) (filter test (range (suc (suc a)) n))))
          ≡ to_list (option_map (split (suc a)) (cond b (defines (line L (suc a))) None)) ++ concat (map (λ k. to_list (point k)) (range (suc (suc a)) n))
      go true e = ap (found (suc a) ++◌) e
      go false e = e

  points_are : split_points L ≡ concat (map (λ k. to_list (point k)) (from_line_1 L))
  unfolding split_points
  points_are = points_from 0 (length L - 1)

  starts_zero : (f : List ℕ) → starts L f 0 ≡ false
  unfolding starts start_at defined_at
  starts_zero f = go (eqb (line L 0).indent 1 && not (any (crosses 0) (all_jumps L)))
    where
      go : (b : Bool) → (elim (cond {A = Option (List ℕ)} b None None) [ None ↦ false | Some g ↦ g ≟ f ]) ≡ false
      go true = refl
      go false = refl

  -- a test of the family and one of the line
  passes_both : (f : List ℕ) (q : ℕ → Bool) (k : ℕ) → passes (λ (s : Split). (s.family ≟ f) && q s.at) (point k) ≡ (starts L f k && q k)
  unfolding starts
  passes_both f q k = go (start_at L k)
    where
      go : (o : Option (List ℕ)) → passes (λ (s : Split). (s.family ≟ f) && q s.at) (option_map (split k) o) ≡ ((elim o [ None ↦ false | Some g ↦ g ≟ f ]) && q k)
      go None = refl
      go (Some g) = refl

-- Lines up to and with line i

module _ (q : ℕ → Bool) (i : ℕ) where
  count_beyond : (a n : ℕ) → i < a → count (λ k. q k && leb k i) (range a n) ≡ 0
  unfolding filter range
  count_beyond a zero h = refl
  count_beyond a (suc n) h = rw (lt-leb a i h, and-false (q a)) (count_beyond (suc a) n (omega arith))

  count_upto : (a n : ℕ) → i < a + n → a ≤ i + 1 → count (λ k. q k && leb k i) (range a n) ≡ count q (range a ((i + 1) - a))
  unfolding filter range
  count_upto a zero h g = let z : (i + 1) - a ≡ 0 = omega arith in rw z
  count_upto a (suc n) h g = elim (lt_or_ge i a) [
    | inl b ↦ (let z : (i + 1) - a ≡ 0 = omega arith in count_beyond a (suc n) b ∙ rw z)
    | inr b ↦ (let z : (i + 1) - a ≡ suc ((i + 1) - suc a) = omega arith in rw (z, le-leb a i b, and-true (q a)) (go (q a) (count_upto (suc a) n (omega arith) (omega arith))))
  ]
    where
      go : (b : Bool) → count (λ k. q k && leb k i) (range (suc a) n) ≡ count q (range (suc a) ((i + 1) - suc a))
          → length (cond b (a ∷ filter (λ k. q k && leb k i) (range (suc a) n)) (filter (λ k. q k && leb k i) (range (suc a) n)))
          ≡ length (cond b (a ∷ filter q (range (suc a) ((i + 1) - suc a))) (filter q (range (suc a) ((i + 1) - suc a))))
      go true e = ap suc e
      go false e = e

module _ (L : List Line) (f : List ℕ) (i : ℕ) (h : i < length L) where
  pub split_key_is : split_key (split_points L) f i ≡ count (starts L f) (up_to (i + 1))
  unfolding range filter
  split_key_is =
      let z : (i + 1) - 1 ≡ i = omega arith in
      let w : i + 1 ≡ suc i = omega arith in
      ap (split_key_in) (points_are L)
      ∙ count_options (λ s. (s.family ≟ f) && leb s.at i) (point L) (from_line_1 L)
      ∙ ap (λ (p : ℕ → Bool). count p (from_line_1 L)) (fun_ext (passes_both L f (λ k. leb k i)))
      ∙ count_upto (starts L f) i 1 (length L - 1) (omega arith) (omega arith)
      ∙ rw (z, w, starts_zero L f)
    where
      split_key_in : List Split → ℕ
      split_key_in ss = split_key ss f i

  pub split_starts_is : split_starts (split_points L) f i ≡ starts L f i
  split_starts_is =
      ap (any (λ s. (s.family ≟ f) && eqb s.at i)) (points_are L)
      ∙ any_options (λ s. (s.family ≟ f) && eqb s.at i) (point L) (from_line_1 L)
      ∙ ap (λ (p : ℕ → Bool). any p (from_line_1 L)) (fun_ext (passes_both L f (λ k. eqb k i)))
      ∙ same_test _ _ there (back i h refl)
    where
      there : any (λ k. starts L f k && eqb k i) (from_line_1 L) ≡ true → starts L f i ≡ true
      there e =
          let w = any_found (λ k. starts L f k && eqb k i) (from_line_1 L) e in
          let r = and_split (starts L f w.0) (eqb w.0 i) w.2 in
          ap (starts L f) (sym (eqb-true w.0 i r.1)) ∙ r.0

      back : (j : ℕ) → j < length L → j ≡ i → starts L f i ≡ true → any (λ k. starts L f k && eqb k i) (from_line_1 L) ≡ true
      back zero g z e = clash e (ap (starts L f) (sym z) ∙ starts_zero L f)
      back (suc j) g z e =
          any_here (λ k. starts L f k && eqb k i) (from_line_1 L) i (range_member i 1 (length L - 1) (omega arith) (omega arith)) (and_both e (eq-eqb i i refl))
