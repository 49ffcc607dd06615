-- The places of families among those that have a definition.
--   place_is         the place of a family
--   place_most       it is at most their number
--   names_place      a token names family k exactly if its family's place is k + 1
-- Assumes nothing.
use Rattle.std.specs.Prelude.{Option, None, Some}
use Prim.Native.Nat.{ℕ, ◌+◌, ◌<◌, ◌≤◌}
use mathlib.Core.Path.{◌≡◌, sym, ◌∙◌}
use mathlib.Core.Logic.{inl, inr}
use mathlib.Core.Bool.{true, false}
use mathlib.Core.List.{List}
use native.Mathlib.Omega.{arith}
use native.Mathlib.Numerals.{add-one}
use lib.Dec.{eqb}
use borrow.Author.Tests.{eqb-true, eq-eqb, ne_eqb}
use lib.ListN.{length}
use Rattle.definitions.specs.Lists.{◌≟◌}
use Rattle.definitions.specs.Model.{Token, Line}
use Rattle.definitions.specs.Family.{Family, fam_of, names}
use Rattle.definitions.specs.Recover.{defined_families}
use Rattle.theory.proofs.Bools.{same_test}
use Rattle.theory.proofs.ListLaws.{≟_true, ≟_self}
use Rattle.families.specs.Families.{place, place_of}
use Rattle.families.specs.Tokens.{family_name}
use Rattle.families.proofs.Finding.{unique_families, place_here}
use Rattle.families.proofs.Numbered.{place_cases}

pub place_is : (L : List Line) (k : ℕ) → k < length (defined_families L) → (g : List ℕ) → eqb (place (defined_families L) g) (k + 1) ≡ (g ≟ family_name L k)
place_is L k h g = same_test _ _ there (λ e. eq-eqb _ _ (place_here (defined_families L) g k (unique_families L) h (sym (≟_true g (family_name L k) e)) ∙ sym (add-one k)))
  where
    there : eqb (place (defined_families L) g) (k + 1) ≡ true → (g ≟ family_name L k) ≡ true
    there e = elim (place_cases (defined_families L) g) [
      | inl p ↦ (let q = eqb-true (place (defined_families L) g) (k + 1) e in absurd (omega (arith, p.0)))
      | inr p ↦ (let q = eqb-true (place (defined_families L) g) (k + 1) e in let z : p.0 ≡ k = omega (arith, p.1) in
          rw (← p.3, z) (≟_self (family_name L k)))
    ]

pub place_most : (fs : List (List ℕ)) (f : List ℕ) → place fs f ≤ length fs
place_most fs f = elim (place_cases fs f) [ inl p ↦ omega (arith, p.0) | inr p ↦ omega (arith, p.1, p.2) ]

pub names_place : (L : List Line) (k : ℕ) → k < length (defined_families L) → (u : Token) → eqb (place_of (defined_families L) (fam_of u)) (k + 1) ≡ names (family_name L k) u
unfolding names
names_place L k h u = go (fam_of u)
  where
    go : (o : Option Family) → eqb (place_of (defined_families L) o) (k + 1) ≡ (elim o [ None ↦ false | Some y ↦ y.name ≟ family_name L k ])
    go None = ne_eqb 0 (k + 1) (λ z. omega arith)
    go (Some y) = place_is L k h y.name
