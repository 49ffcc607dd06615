-- The places of families, and the numbers and marks that follow from them.
--   start_small                  a place is below 1,024
--   number_is, mark_is           the number and the mark of a token of a family
-- Assumes nothing.
use Rattle.std.specs.Prelude.{Option, None, Some}
use Prim.Native.Nat.{ℕ, zero, suc, ◌+◌, ◌<◌, ◌≤◌}
use mathlib.Core.Path.{◌≡◌, refl, sym, ap, ◌∙◌}
use mathlib.Core.Logic.{inl, inr}
use mathlib.Core.Bool.{Bool, true, false, cond, ◌&&◌, not}
use mathlib.Core.List.{List, []}
use native.Mathlib.Omega.{arith}
use borrow.Author.Tests.{eq-eqb, ne_eqb, eqb-true, lt-ltb}
use lib.Dec.{eqb}
use lib.ListN.{length, get_or}
use Rattle.definitions.specs.Lists.{any, count, up_to, ◌≟◌}
use Rattle.definitions.specs.Model.{Line, line}
use Rattle.definitions.specs.Family.{Family}
use Rattle.definitions.specs.Statements.{defines}
use Rattle.definitions.specs.Recover.{defined_families}
use Rattle.definitions.specs.SplitPoints.{all_jumps, crosses, split_points, split_key, split_starts}
use Rattle.definitions.specs.Answers.{no_family, mark}
use Rattle.theory.proofs.Bools.{same_test, not_so}
use Rattle.theory.proofs.ListLaws.{member_range, count_none, ≟_true, ≟_self}
use Rattle.families.specs.Families.{place, place_defined, defined_at, families_before}
use Rattle.families.proofs.Lists.{filter_same}
use Rattle.families.proofs.Numbered.{families_all, families_few, place_cases, defined_known}
use Rattle.splits.specs.Starts.{start_at, starts, start_place, Starts}
use Rattle.memo.specs.Found.{found}
use Rattle.splits.specs.Tokens.{tally, number_of, mark_of}
use Rattle.splits.proofs.Points.{split_key_is, split_starts_is}

-- Places

place_most : (fs : List (List ℕ)) (o : Option (List ℕ)) → place_defined fs o ≤ length fs
place_most fs None = omega arith
place_most fs (Some f) = elim (place_cases fs f) [ inl g ↦ omega (arith, g.0) | inr g ↦ omega (arith, g.1, g.2) ]

place_same : (fs : List (List ℕ)) (f g : List ℕ) (c : ℕ) → place fs f ≡ suc c → place fs g ≡ suc c → g ≡ f
place_same fs f g c p q = elim (place_cases fs f) [
  | inl a ↦ absurd (omega (arith, p, a.0))
  | inr a ↦ (elim (place_cases fs g) [
    | inl b ↦ absurd (omega (arith, q, b.0))
    | inr b ↦ (let z : b.0 ≡ a.0 = omega (arith, p, q, a.1, b.1) in sym b.3 ∙ ap (λ (k : ℕ). get_or fs k []) z ∙ a.3)
  ])
]

module _ (L : List Line) where
  families_fewer : (n : ℕ) → n ≡ length L → 0 < n → length (defined_families L) < n
  families_fewer zero e h = absurd (omega arith)
  families_fewer (suc n) e h = omega (arith, ap length (sym (families_all L)), ap (λ (k : ℕ). length (families_before L k)) (sym e), families_few L n)

  -- a split point defines a family that is among those that have a definition
  start_known : (i : ℕ) (f : List ℕ) → i < length L → start_at L i ≡ Some f → place (defined_families L) f ≡ 0 → ⊥
  unfolding start_at defined_at
  start_known zero f h e z = go (eqb (line L 0).indent 1 && not (any (crosses 0) (all_jumps L))) e
    where
      go : (b : Bool) → cond {A = Option (List ℕ)} b None None ≡ Some f → ⊥
      go true e = let y : ◌≡◌ {A = ℕ} 0 1 = cc in omega arith
      go false e = let y : ◌≡◌ {A = ℕ} 0 1 = cc in omega arith
  start_known (suc i) f h e z = go (eqb (line L (suc i)).indent 1 && not (any (crosses (suc i)) (all_jumps L))) e
    where
      go : (b : Bool) → cond b (defines (line L (suc i))) None ≡ Some f → ⊥
      go true e = defined_known L (suc i) (omega arith) h f e z
      go false e = let y : ◌≡◌ {A = ℕ} 0 1 = cc in omega arith

  module _ (f : List ℕ) where
    starts_none : place (defined_families L) f ≡ 0 → (i : ℕ) → i < length L → starts L f i ≡ false
    unfolding starts
    starts_none z i h = go (start_at L i) refl
      where
        go : (o : Option (List ℕ)) → start_at L i ≡ o → (elim o [ None ↦ false | Some g ↦ g ≟ f ]) ≡ false
        go None e = refl
        go (Some g) e = not_so (g ≟ f) (λ q. start_known i g h e (ap (place (defined_families L)) (≟_true g f q) ∙ z))

    starts_place : (c : ℕ) → place (defined_families L) f ≡ suc c → (i : ℕ) → eqb (start_place L i) (suc c) ≡ starts L f i
    unfolding starts
    starts_place c z i = go (start_at L i)
      where
        go : (o : Option (List ℕ)) → eqb (place_defined (defined_families L) o) (suc c) ≡ (elim o [ None ↦ false | Some g ↦ g ≟ f ])
        go None = ne_eqb 0 (suc c) (λ q. omega arith)
        go (Some g) = same_test _ _
            (λ e. ap (◌≟ f) (place_same (defined_families L) f g c z (eqb-true (place (defined_families L) g) (suc c) e)) ∙ ≟_self f)
            (λ e. eq-eqb (place (defined_families L) g) (suc c) (ap (place (defined_families L)) (≟_true g f e) ∙ z))

-- Numbers and marks

count_same : (p q : ℕ → Bool) (i : ℕ) → ((x : ℕ) → x < i → p x ≡ q x) → count p (up_to i) ≡ count q (up_to i)
count_same p q i h = ap length (filter_same p q (up_to i) (λ x m. h x (omega (arith, member_range x 0 i m))))

module _ (L : List Line) (ds : List ℕ) (S : Starts L ds) (few : length L ≤ 1024) (i : ℕ) (h : i < length L) where
  place_small : (o : Option (List ℕ)) → place_defined (defined_families L) o < 1024
  place_small o = omega (arith, place_most (defined_families L) o, families_fewer L (length L) refl (omega arith))

  pub start_small : start_place L i < 1024
  start_small = place_small (start_at L i)

  tally_is : (f : List ℕ) (c : ℕ) → place (defined_families L) f ≡ suc c → tally ds (i + 1) (suc c) ≡ split_key (split_points L) f i
  unfolding tally
  tally_is f c z =
      count_same (λ j. eqb (get_or ds j 0) (suc c)) (starts L f) (i + 1) (λ j b. ap (λ (d : ℕ). eqb d (suc c)) (S.at j (omega arith)) ∙ starts_place L f c z j)
      ∙ sym (split_key_is L f i h)

  key_none : (f : List ℕ) → place (defined_families L) f ≡ 0 → split_key (split_points L) f i ≡ 0
  key_none f z =
      split_key_is L f i h ∙ count_same (starts L f) (λ j. false) (i + 1) (λ j b. starts_none L f z j (omega arith))
      ∙ count_none (λ j. false) (up_to (i + 1)) (λ j. refl)

  pub number_is : (o : Option Family) → number_of (tally ds (i + 1)) (found (defined_families L) o) ≡ (elim o [ None ↦ no_family | Some x ↦ split_key (split_points L) x.name i ])
  unfolding number_of
  number_is None = refl
  number_is (Some x) = go (place (defined_families L) x.name) refl
    where
      go : (c : ℕ) → place (defined_families L) x.name ≡ c → number_of (tally ds (i + 1)) (Some c) ≡ split_key (split_points L) x.name i
      go zero z = sym (key_none x.name z)
      go (suc c) z = let a = ne_eqb (suc c) 0 (λ q. omega arith) in rw a (tally_is x.name c z)

  pub mark_is : (o : Option Family) → mark_of (get_or ds i 0) (found (defined_families L) o) ≡ (elim o [ None ↦ 0 | Some x ↦ mark (split_starts (split_points L) x.name i) ])
  unfolding mark_of
  mark_is None = refl
  mark_is (Some x) = rw (S.at i h, split_starts_is L x.name i h) (go (place (defined_families L) x.name) refl)
    where
      other : (d : ℕ) → mark_of d (Some 0) ≡ 0
      other zero = refl
      other (suc d) = let a = ne_eqb (suc d) 0 (λ q. omega arith) in rw (lt-ltb 0 (suc d) (omega arith), a)

      same : (d c : ℕ) → mark_of d (Some (suc c)) ≡ mark (eqb d (suc c))
      same zero c = let a = ne_eqb 0 (suc c) (λ q. omega arith) in rw a
      same (suc d) c = rw (lt-ltb 0 (suc d) (omega arith))

      go : (c : ℕ) → place (defined_families L) x.name ≡ c → mark_of (start_place L i) (Some c) ≡ mark (starts L x.name i)
      go zero z = other (start_place L i) ∙ ap mark (sym (starts_none L x.name z i h))
      go (suc c) z = same (start_place L i) c ∙ ap mark (starts_place L x.name c z i)
