-- Looking up the family of a token.
--   map_places       a map over the places of a list
--   found_few        the place that is found is small
-- Assumes nothing.
use Rattle.std.specs.Prelude.{Option, None, Some}
use Rattle.std.specs.Option.{option_map}
use Prim.Native.Nat.{ℕ, suc, ◌+◌, ◌≤◌}
use mathlib.Core.Path.{◌≡◌, refl, sym, ap, ap₂, ◌∙◌}
use mathlib.Core.Bool.{Bool, true, false, cond}
use mathlib.Core.List.{List, [], ◌∷◌, map}
use native.Mathlib.Omega.{arith}
use native.Mathlib.Nat.{zero-add, add-zero}
use lib.ListN.{length, get_or, take, length-take}
use Rattle.definitions.specs.Lists.{position, range, up_to, ◌≟◌}
use Rattle.definitions.specs.Model.{Line}
use Rattle.definitions.specs.Family.{Family}
use Rattle.definitions.specs.Recover.{defined_families}
use Rattle.family.specs.declared.Register.{Register}
use Rattle.family.specs.Register.{family_of}
use Rattle.families.specs.Families.{place, place_of}
use Rattle.families.specs.Tokens.{Finds}

pub map_places : {A B : Type 0} (g : A → B) (d : A) (xs : List A) → map (λ k. g (get_or xs k d)) (up_to (length xs)) ≡ map g xs
unfolding range
map_places g d xs = go xs xs 0 (λ k. ap (λ (i : ℕ). get_or xs i d) (sym (zero-add k)))
  where
    go : (all xs : List _) (a : ℕ) → ((k : ℕ) → get_or xs k d ≡ get_or all (a + k) d) → map (λ k. g (get_or all k d)) (range a (length xs)) ≡ map g xs
    go all [] a h = refl
    go all (x ∷ xs) a h =
        ap₂ (λ (y : _) (ys : List _). y ∷ ys) (ap g (sym (h 0 ∙ ap (λ (i : ℕ). get_or all i d) (add-zero a))))
        (go all xs (suc a) (λ k. h (suc k) ∙ ap (λ (i : ℕ). get_or all i d) (omega arith)))

place_at : Option ℕ → ℕ
place_at o = elim o [ None ↦ 0 | Some k ↦ suc k ]

position_most : (f : List ℕ) (fs : List (List ℕ)) → place_at (position (λ g. g ≟ f) fs) ≤ length fs
unfolding place_at position
position_most f [] = omega arith
position_most f (g ∷ gs) = go (g ≟ f) (position (λ g. g ≟ f) gs) (position_most f gs)
  where
    go : (b : Bool) (o : Option ℕ) → place_at o ≤ length gs → place_at (cond b (Some 0) (option_map suc o)) ≤ suc (length gs)
    go true o h = omega arith
    go false None h = omega arith
    go false (Some k) h = omega arith

place_most : (fs : List (List ℕ)) (o : Option Family) → place_of fs o ≤ length fs
unfolding place place_at
place_most fs None = omega arith
place_most fs (Some f) = position_most f.name fs

pub found_few : (L : List Line) (count : ℕ) (t : List ℕ) → Finds L count t → (s : List ℕ) (r : Option Register) (c : ℕ)
    → c ≡ place_of (take count (defined_families L)) (family_of s r) → c ≤ 1024
found_few L count t F s r c e = omega (arith, e, place_most (take count (defined_families L)) (family_of s r), length-take count (defined_families L), F.few)
