-- Texts of places one after the other, `rows` of Rattle.rows.specs.Rows: the same of each place.
-- Assumes nothing.
use Prim.Native.Nat.{ℕ, zero, suc, ◌+◌, ◌-◌, ◌≤◌, ◌<◌}
use mathlib.Core.Path.{◌≡◌, refl, ap}
use mathlib.Core.List.{List, map}
use native.Mathlib.Omega.{arith}
use Rattle.definitions.specs.Lists.{concat, range}
use Rattle.rows.specs.Rows.{rows}

pub map_range : {A : Type 0} (f g : ℕ → A) (a n : ℕ) → ((k : ℕ) → a ≤ k → k < a + n → f k ≡ g k) → map f (range a n) ≡ map g (range a n)
unfolding range
map_range f g a zero same = refl
map_range f g a (suc n) same =
    let here = same a (omega arith) (omega arith) in
    let rest = map_range f g (suc a) n (λ k h i. same k (omega arith) (omega arith)) in
    rw (here, rest)

pub rows_same : (f g : ℕ → List ℕ) (a e : ℕ) → ((k : ℕ) → a ≤ k → k < e → f k ≡ g k) → rows f a e ≡ rows g a e
rows_same f g a e same = ap concat (map_range f g a (e - a) (λ k h i. same k h (omega arith)))
