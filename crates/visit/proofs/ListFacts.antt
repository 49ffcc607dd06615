-- Facts of lists and of filtered ranges.
--   any_alike                    tests that agree on the members of a list
--   getD_inside                  inside a list the default does not matter
--   getD_member, member_place    an element is a member; a member has a place
--   part_low, part_rising        what passes a test, of the numbers from a on: not below a, and rising
--   part_more                    one number more
--   part_place                   a number that passes stands behind those before it that do
-- Assumes nothing.
use Prim.Native.Nat.{ℕ, zero, suc, ◌+◌, ◌<◌, ◌≤◌}
use mathlib.Core.Path.{◌≡◌, refl, sym, ap, ◌∙◌}
use mathlib.Core.Logic.{inl, inr}
use mathlib.Core.Bool.{Bool, true, false, cond, false≢true}
use mathlib.Core.List.{List, [], ◌∷◌}
use native.Mathlib.Omega.{arith}
use lib.ListN.{length, get_or}
use Rattle.definitions.specs.Lists.{any, filter, range, member}
use Rattle.theory.proofs.Bools.{same_test}
use Rattle.theory.proofs.ListLaws.{any_found, any_here, member_head, member_tail, member_cases}

pub any_alike : (f g : ℕ → Bool) (xs : List ℕ) → ((p : ℕ) → member p xs ≡ true → f p ≡ g p) → any f xs ≡ any g xs
any_alike f g xs h = same_test (any f xs) (any g xs) (one f g h) (one g f (λ p m. sym (h p m)))
  where
    one : (f g : ℕ → Bool) → ((p : ℕ) → member p xs ≡ true → f p ≡ g p) → any f xs ≡ true → any g xs ≡ true
    one f g h e = let s = any_found f xs e in any_here g xs s.0 s.1 (sym (h s.0 s.1) ∙ s.2)

pub getD_inside : (xs : List ℕ) (k d e : ℕ) → k < length xs → get_or xs k d ≡ get_or xs k e
getD_inside [] k d e h = absurd (omega arith)
getD_inside (x ∷ xs) zero d e h = refl
getD_inside (x ∷ xs) (suc k) d e h = getD_inside xs k d e (omega arith)

pub getD_member : (xs : List ℕ) (k d : ℕ) → k < length xs → member (get_or xs k d) xs ≡ true
getD_member [] k d h = absurd (omega arith)
getD_member (x ∷ xs) zero d h = member_head x xs
getD_member (x ∷ xs) (suc k) d h = member_tail (get_or xs k d) x xs (getD_member xs k d (omega arith))

pub member_place : (x d : ℕ) (xs : List ℕ) → member x xs ≡ true → (k : ℕ) × (k < length xs) × (get_or xs k d ≡ x)
unfolding any
member_place x d [] m = absurd (false≢true m)
member_place x d (y ∷ ys) m = elim (member_cases x y ys m) [
  | inl q ↦ (0, omega arith, sym q)
  | inr q ↦ (let s = member_place x d ys q in (suc s.0, omega (arith, s.1), s.2))
]

-- What passes the test p, of the n numbers from a on

module _ (p : ℕ → Bool) where
  abbrev passing : ℕ → ℕ → List ℕ
  passing a n = filter p (range a n)

  pub part_low : (a n k d : ℕ) → k < length (filter p (range a n)) → a ≤ get_or (filter p (range a n)) k d
  unfolding filter range
  part_low a zero k d h = absurd (omega arith)
  part_low a (suc n) k d h = go (p a) k h (λ k q. part_low (suc a) n k d q)
    where
      go : (b : Bool) (k : ℕ) → k < length (cond b (a ∷ passing (suc a) n) (passing (suc a) n)) → ((k : ℕ) → k < length (passing (suc a) n) → suc a ≤ get_or (passing (suc a) n) k d)
          → a ≤ get_or (cond b (a ∷ passing (suc a) n) (passing (suc a) n)) k d
      go true zero h rest = omega arith
      go true (suc k) h rest = omega (arith, rest k (omega arith))
      go false k h rest = omega (arith, rest k h)

  pub part_rising : (a n j k d : ℕ) → j < k → k < length (filter p (range a n)) → get_or (filter p (range a n)) j d < get_or (filter p (range a n)) k d
  unfolding filter range
  part_rising a zero j k d q h = absurd (omega arith)
  part_rising a (suc n) j k d q h = go (p a) j k q h (λ j k q h. part_rising (suc a) n j k d q h)
    where
      go : (b : Bool) (j k : ℕ) → j < k → k < length (cond b (a ∷ passing (suc a) n) (passing (suc a) n))
          → ((j k : ℕ) → j < k → k < length (passing (suc a) n) → get_or (passing (suc a) n) j d < get_or (passing (suc a) n) k d)
          → get_or (cond b (a ∷ passing (suc a) n) (passing (suc a) n)) j d < get_or (cond b (a ∷ passing (suc a) n) (passing (suc a) n)) k d
      go true zero zero q h rest = absurd (omega arith)
      go true zero (suc k) q h rest = part_low (suc a) n k d (omega arith)
      go true (suc j) zero q h rest = absurd (omega arith)
      go true (suc j) (suc k) q h rest = rest j k (omega arith) (omega arith)
      go false j k q h rest = rest j k q h

  pub part_more : (a n : ℕ) → length (filter p (range a (suc n))) ≡ cond (p (a + n)) (suc (length (filter p (range a n)))) (length (filter p (range a n)))
  unfolding filter range
  part_more a zero = let e : a + 0 ≡ a = omega arith in rw e (go (p a))
    where
      go : (b : Bool) → length (cond b (a ∷ []) []) ≡ cond b 1 0
      go true = refl
      go false = refl
  part_more a (suc n) = let e : suc a + n ≡ a + suc n = omega arith in rw (← e) (go (p a) (p (suc a + n)) (part_more (suc a) n))
    where
      go : (b c : Bool) → length (passing (suc a) (suc n)) ≡ cond c (suc (length (passing (suc a) n))) (length (passing (suc a) n))
          → length (cond b (a ∷ passing (suc a) (suc n)) (passing (suc a) (suc n)))
          ≡ cond c (suc (length (cond b (a ∷ passing (suc a) n) (passing (suc a) n)))) (length (cond b (a ∷ passing (suc a) n) (passing (suc a) n)))
      go true true r = ap suc r
      go true false r = ap suc r
      go false true r = r
      go false false r = r

  pub part_place : (a n i d : ℕ) → i < n → p (a + i) ≡ true
      → (length (filter p (range a i)) < length (filter p (range a n))) × (get_or (filter p (range a n)) (length (filter p (range a i))) d ≡ a + i)
  unfolding filter range
  part_place a zero i d h e = absurd (omega arith)
  part_place a (suc n) zero d h e = let z : a + 0 ≡ a = omega arith in let t : p a ≡ true = rw z at e in rw t (omega arith, sym z)
  part_place a (suc n) (suc i) d h e =
      let z : suc a + i ≡ a + suc i = omega arith in
      go (p a) (part_place (suc a) n i d (omega arith) (rw z e))
    where
      go : (b : Bool) → (length (passing (suc a) i) < length (passing (suc a) n)) × (get_or (passing (suc a) n) (length (passing (suc a) i)) d ≡ suc a + i)
          → (length (cond b (a ∷ passing (suc a) i) (passing (suc a) i)) < length (cond b (a ∷ passing (suc a) n) (passing (suc a) n)))
          × (get_or (cond b (a ∷ passing (suc a) n) (passing (suc a) n)) (length (cond b (a ∷ passing (suc a) i) (passing (suc a) i))) d ≡ a + suc i)
      go true s = (omega (arith, s.0), omega (arith, s.1))
      go false s = (s.0, omega (arith, s.1))
