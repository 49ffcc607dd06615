-- Ranks in a rising list: how many elements that pass a test come before a number.
--   Rising lo xs                   the elements of xs rise, each more than the one before, from lo on
--   rising_range, rising_filter    a range rises, and what is filtered from a rising list
--   rank p xs r                    how many elements of xs below r pass p
--   rank_used                      every number below a rank is the rank of an element that passes: there is no gap
-- Assumes nothing.
use Prim.Native.Nat.{ℕ, zero, suc, ◌<◌, ◌≤◌}
use mathlib.Core.Path.{◌≡◌, refl, ap, ◌∙◌}
use mathlib.Core.Logic.{inl, inr}
use mathlib.Core.Bool.{Bool, true, false, cond, ◌&&◌, and-true, and-false, false≢true}
use mathlib.Core.List.{List, [], ◌∷◌}
use native.Mathlib.Omega.{arith}
use lib.Dec.{ltb}
use borrow.Author.Tests.{lt-ltb, le-ltb}
use lib.ListN.{length}
use Rattle.definitions.specs.Lists.{any, filter, count, range, member}
use Rattle.theory.proofs.Bools.{and_both, lt_or_ge}
use Rattle.theory.proofs.ListLaws.{member_head, member_tail, member_cases}

abbrev pub Rising : ℕ → List ℕ → Type 0
Rising lo [] = Unit {0}
Rising lo (x ∷ xs) = (lo ≤ x) × Rising (suc x) xs

pub rising_range : (a n : ℕ) → Rising a (range a n)
unfolding range
rising_range a zero = tt
rising_range a (suc n) = (omega arith, rising_range (suc a) n)

rising_from : (lo hi : ℕ) (xs : List ℕ) → lo ≤ hi → Rising hi xs → Rising lo xs
rising_from lo hi [] h r = tt
rising_from lo hi (x ∷ xs) h r = (omega (arith, r.0), r.1)

pub rising_filter : (p : ℕ → Bool) (lo : ℕ) (xs : List ℕ) → Rising lo xs → Rising lo (filter p xs)
unfolding filter
rising_filter p lo [] r = tt
rising_filter p lo (x ∷ xs) r = go (p x) (rising_filter p (suc x) xs r.1)
  where
    go : (b : Bool) → Rising (suc x) (filter p xs) → Rising lo (cond b (x ∷ filter p xs) (filter p xs))
    go true s = (r.0, s)
    go false s = rising_from lo (suc x) (filter p xs) (omega (arith, r.0)) s

rising_member : (lo : ℕ) (xs : List ℕ) (e : ℕ) → Rising lo xs → member e xs ≡ true → lo ≤ e
unfolding any
rising_member lo [] e s m = absurd (false≢true m)
rising_member lo (x ∷ xs) e s m = elim (member_cases e x xs m) [
  | inl q ↦ omega (arith, s.0)
  | inr q ↦ omega (arith, s.0, rising_member (suc x) xs e s.1 q)
]

module _ (p : ℕ → Bool) where
  abbrev pub rank : List ℕ → ℕ → ℕ
  rank xs r = count (λ x. p x && ltb x r) xs

  -- what the first element adds
  rank_adds : (x : ℕ) (xs : List ℕ) (r : ℕ) (b : Bool) → (p x && ltb x r) ≡ b → rank (x ∷ xs) r ≡ cond b (suc (rank xs r)) (rank xs r)
  unfolding filter
  rank_adds x xs r b e = rw e (go b)
    where
      go : (b : Bool)
          → length (cond b (x ∷ filter (λ x. p x && ltb x r) xs) (filter (λ x. p x && ltb x r) xs)) ≡ cond b (suc (rank xs r)) (rank xs r)
      go true = refl
      go false = refl

  rank_past : (x : ℕ) (xs : List ℕ) (r : ℕ) → r ≤ x → rank (x ∷ xs) r ≡ rank xs r
  rank_past x xs r h = rank_adds x xs r false (ap (p x &&◌) (le-ltb x r h) ∙ and-false (p x))

  rank_low : (lo : ℕ) (xs : List ℕ) (r : ℕ) → Rising lo xs → r ≤ lo → rank xs r ≡ 0
  unfolding filter
  rank_low lo [] r s h = refl
  rank_low lo (x ∷ xs) r s h = rank_past x xs r (omega (arith, s.0)) ∙ rank_low (suc x) xs r s.1 (omega (arith, s.0))

  pub rank_used : (lo : ℕ) (xs : List ℕ) → Rising lo xs → (r m : ℕ) → m < rank xs r
      → (e : ℕ) × (member e xs ≡ true) × (p e ≡ true) × (rank xs e ≡ m)
  unfolding filter
  rank_used lo [] s r m h = absurd (omega arith)
  rank_used lo (x ∷ xs) s r m h = elim (lt_or_ge x r) [
    | inl l ↦ go (p x) refl l m h (rank_used (suc x) xs s.1 r)
    | inr l ↦ absurd (omega (arith, rank_past x xs r l, rank_low (suc x) xs r s.1 (omega arith)))
  ]
    where
      later : (b : Bool) → p x ≡ b → (e : ℕ) → member e xs ≡ true → rank (x ∷ xs) e ≡ cond b (suc (rank xs e)) (rank xs e)
      later b q e m = rank_adds x xs e b (rw (q, lt-ltb x e (rising_member (suc x) xs e s.1 m)) (and-true b))

      go : (b : Bool) → p x ≡ b → x < r → (m : ℕ) → m < rank (x ∷ xs) r
          → ((m : ℕ) → m < rank xs r → (e : ℕ) × (member e xs ≡ true) × (p e ≡ true) × (rank xs e ≡ m))
          → (e : ℕ) × (member e (x ∷ xs) ≡ true) × (p e ≡ true) × (rank (x ∷ xs) e ≡ m)
      go true q l zero h rest =
          (x, member_head x xs, q, rank_past x xs x (omega arith) ∙ rank_low (suc x) xs x s.1 (omega arith))
      go true q l (suc m) h rest =
          let w = rest m (omega (arith, rank_adds x xs r true (and_both q (lt-ltb x r l)))) in
          (w.0, member_tail w.0 x xs w.1, w.2, later true q w.0 w.1 ∙ ap suc w.3)
      go false q l m h rest =
          let w = rest m (omega (arith, rank_adds x xs r false (rw q))) in
          (w.0, member_tail w.0 x xs w.1, w.2, later false q w.0 w.1 ∙ w.3)
