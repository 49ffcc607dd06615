-- Entries that lead from line to line, each to an earlier one.
--   get_set          what holds of an entry that was stored and of those that were not
--   linked_set       an entry of a later line does not touch the walk
--   linked_fuel      as many steps as the entry are enough
-- Assumes nothing.
use Prim.Native.Nat.{ℕ, zero, suc, ◌<◌, ◌≤◌}
use mathlib.Core.Path.{◌≡◌, refl, ap}
use mathlib.Core.List.{List, ◌∷◌}
use native.Mathlib.Decide.{ℕ_discrete}
use native.Mathlib.Omega.{arith}
use lib.ListN.{length, get_or, set}
use lib.Seq.{get_or-set_same, get_or-set_other}
use Rattle.blocks.specs.Entries.{linked}

pub get_set : (l : List ℕ) (i j v : ℕ) → i < length l → (P : ℕ → Type 0) → (j ≡ i → P v) → ((j ≡ i → ⊥) → P (get_or l j 0)) → P (get_or (set l i v) j 0)
get_set l i j v b P at other = go (ℕ_discrete j i)
  where
    go : Dec (j ≡ i) → P (get_or (set l i v) j 0)
    go (yes e) = rw (e, get_or-set_same l i v 0 b) (at e)
    go (no e) = rw (get_or-set_other l i j v 0 e) (other e)

module _ (ps : List ℕ) where
  pub linked_set : (i v k p : ℕ) → p ≤ i → ((j : ℕ) → j < p → get_or ps j 0 ≤ j) → linked (set ps i v) k p ≡ linked ps k p
  unfolding linked
  linked_set i v zero p g low = refl
  linked_set i v (suc k) zero g low = refl
  linked_set i v (suc k) (suc h) g low =
      let b = low h (omega arith) in
      rw (get_or-set_other ps i h v 0 (λ q. omega arith))
      (ap (h ∷◌) (linked_set i v k (get_or ps h 0) (omega arith) (λ j q. low j (omega arith))))

  pub linked_fuel : (k m p : ℕ) → p ≤ k → p ≤ m → ((j : ℕ) → j < p → get_or ps j 0 ≤ j) → linked ps k p ≡ linked ps m p
  unfolding linked
  linked_fuel zero zero p b c low = refl
  linked_fuel zero (suc m) zero b c low = refl
  linked_fuel zero (suc m) (suc h) b c low = absurd (omega arith)
  linked_fuel (suc k) zero zero b c low = refl
  linked_fuel (suc k) zero (suc h) b c low = absurd (omega arith)
  linked_fuel (suc k) (suc m) zero b c low = refl
  linked_fuel (suc k) (suc m) (suc h) b c low =
      let q = low h (omega arith) in
      ap (h ∷◌) (linked_fuel k m (get_or ps h 0) (omega arith) (omega arith) (λ j g. low j (omega arith)))
