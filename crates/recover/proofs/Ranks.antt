-- Counting the definitions that are their own representative, from the front.
--   earlier_zero, earlier_next    none before definition 0; one more behind a definition that is its own representative
-- Assumes nothing.
use Prim.Native.Nat.{ℕ, zero, suc, ◌+◌, ◌<◌, ◌≤◌}
use mathlib.Core.Path.{◌≡◌, refl, ap, ◌∙◌}
use mathlib.Core.Bool.{Bool, true, false, cond, ◌&&◌, and-true, and-false}
use mathlib.Core.List.{List, ◌∷◌}
use native.Mathlib.Numerals.{add-one}
use native.Mathlib.Nat.{zero-add}
use native.Mathlib.Omega.{arith}
use lib.Dec.{eqb, ltb}
use borrow.Author.Tests.{lt-ltb, le-ltb}
use lib.ListN.{length, get_or}
use Rattle.definitions.specs.Lists.{filter, count, range, up_to}
use Rattle.recover.specs.Numbers.{earlier}
use Rattle.families.proofs.Lists.{range_snoc, count_snoc}

module _ (p : ℕ → Bool) (r : ℕ) where
  abbrev low : ℕ → Bool
  low x = p x && ltb x r

  count_past : (a n : ℕ) → r ≤ a → count low (range a n) ≡ 0
  unfolding filter range
  count_past a zero h = refl
  count_past a (suc n) h = rw (le-ltb a r h, and-false (p a)) (count_past (suc a) n (omega arith))

  count_low : (a n k : ℕ) → a + k ≡ r → k ≤ n → count low (range a n) ≡ count p (range a k)
  unfolding filter range
  count_low a n zero e h = count_past a n (omega arith)
  count_low a zero (suc k) e h = absurd (omega arith)
  count_low a (suc n) (suc k) e h =
      rw (lt-ltb a r (omega arith), and-true (p a)) (go (p a) (count_low (suc a) n k (omega arith) (omega arith)))
    where
      go : (b : Bool) → count low (range (suc a) n) ≡ count p (range (suc a) k)
          → length (cond b (a ∷ filter low (range (suc a) n)) (filter low (range (suc a) n))) ≡ length (cond b (a ∷ filter p (range (suc a) k)) (filter p (range (suc a) k)))
      go true q = ap suc q
      go false q = q

module _ (rep : List ℕ) where
  earlier_front : (d : ℕ) → d ≤ length rep → earlier rep d ≡ count (λ x. eqb (get_or rep x 0) x) (up_to d)
  unfolding earlier
  earlier_front d h = count_low (λ x. eqb (get_or rep x 0) x) d 0 (length rep) d (zero-add d) h

  pub earlier_zero : earlier rep 0 ≡ 0
  unfolding range filter
  earlier_zero = earlier_front 0 (omega arith)

  pub earlier_next : (d : ℕ) → d < length rep → earlier rep (d + 1) ≡ earlier rep d + cond (eqb (get_or rep d 0) d) 1 0
  earlier_next d h =
      earlier_front (d + 1) (omega arith)
      ∙ ap (λ (k : ℕ). count (λ x. eqb (get_or rep x 0) x) (up_to k)) (add-one d)
      ∙ ap (count (λ x. eqb (get_or rep x 0) x)) (range_snoc 0 d)
      ∙ count_snoc (λ x. eqb (get_or rep x 0) x) (up_to d) (0 + d)
      ∙ rw (zero-add d, earlier_front d (omega arith))
