-- Rules for `search` at the needs of a loop over a list xs of length n, at place j: the invariant is that the answer r is what is left to
-- compute. Each premise is a field of what a need is handed: b is the code's flag at the element of place j.
--   any_found, any_next, any_end            r ≡ any p (drop j xs)
--   all_found, all_next, all_end            r ≡ all p (drop j xs)
--   position_found, -next, -end             r ≡ position_from j p xs
--   find_found, find_next, find_end         r ≡ find p (drop j xs)
--   last_found, last_next, last_end         r ≡ last_position p (take j xs), from the end down
--   count_found, count_next, count_end      r ≡ m + count p (drop j xs), with m found so far
-- Assumes nothing.
use Rattle.std.specs.Prelude.{Option, None, Some}
use Rattle.std.specs.Option.{option_map}
use mathlib.Core.Path.{◌≡◌, refl, sym, ap, ◌∙◌}
use mathlib.Core.Bool.{Bool, true, false, ◌&&◌, ◌||◌, cond}
use mathlib.Core.List.{List, [], ◌∷◌, ◌++◌}
use Prim.Native.Nat.{ℕ, suc, ◌+◌, ◌-◌, ◌≤◌, ◌<◌}
use native.Mathlib.Nat.{add-zero}
use native.Mathlib.Omega.{arith}
use lib.ListN.{length, get_or, take, drop}
use lib.Seq.{take-suc, length-take-le}
use Rattle.definitions.specs.Lists.{any, all, filter, count, position, position_from, last_position, find}
use Rattle.text.proofs.Parts.{drop_step, drop_end}

module _ {A : Type 0} (p : A → Bool) (xs : List A) (j n : ℕ) (e : n ≡ length xs) where
  module _ (r : Bool) (inv : r ≡ any p (drop j xs)) where
    any_step : (d : A) → j < n → r ≡ (p (get_or xs j d) || any p (drop (j + 1) xs))
    unfolding any
    any_step d h = let h' : j < length xs = omega arith in inv ∙ rw (drop_step d xs j)

    pub any_found : (d : A) (b : Bool) → j < n → b ≡ p (get_or xs j d) → b ≡ true → true ≡ r
    any_found d b h q f = sym (any_step d h ∙ rw (← q, f))

    pub any_next : (d : A) (b : Bool) → j < n → b ≡ p (get_or xs j d) → b ≡ false → r ≡ any p (drop (j + 1) xs)
    any_next d b h q f = any_step d h ∙ rw (← q, f)

    pub any_end : n ≤ j → false ≡ r
    unfolding any
    any_end h = sym (inv ∙ rw (drop_end xs j (omega arith)))

  module _ (r : Bool) (inv : r ≡ all p (drop j xs)) where
    all_step : (d : A) → j < n → r ≡ (p (get_or xs j d) && all p (drop (j + 1) xs))
    unfolding all
    all_step d h = let h' : j < length xs = omega arith in inv ∙ rw (drop_step d xs j)

    pub all_found : (d : A) (b : Bool) → j < n → b ≡ p (get_or xs j d) → b ≡ false → false ≡ r
    all_found d b h q f = sym (all_step d h ∙ rw (← q, f))

    pub all_next : (d : A) (b : Bool) → j < n → b ≡ p (get_or xs j d) → b ≡ true → r ≡ all p (drop (j + 1) xs)
    all_next d b h q f = all_step d h ∙ rw (← q, f)

    pub all_end : n ≤ j → true ≡ r
    unfolding all
    all_end h = sym (inv ∙ rw (drop_end xs j (omega arith)))

  module _ (r : Option ℕ) (inv : r ≡ position_from j p xs) where
    position_step : (d : A) → j < n → r ≡ option_map (j +◌) (cond (p (get_or xs j d)) (Some 0) (option_map suc (position p (drop (j + 1) xs))))
    unfolding position
    position_step d h = let h' : j < length xs = omega arith in inv ∙ rw (drop_step d xs j)

    pub position_found : (d : A) (b : Bool) → j < n → b ≡ p (get_or xs j d) → b ≡ true → Some j ≡ r
    position_found d b h q f = sym (position_step d h ∙ rw (← q, f) (ap Some (add-zero j)))

    pub position_next : (d : A) (b : Bool) → j < n → b ≡ p (get_or xs j d) → b ≡ false → r ≡ position_from (j + 1) p xs
    position_next d b h q f = position_step d h ∙ rw (← q, f) (later (position p (drop (j + 1) xs)))
      where
        later : (o : Option ℕ) → option_map (j +◌) (option_map suc o) ≡ option_map ((j + 1) +◌) o
        later None = refl
        later (Some k) = ap Some (omega arith)

    pub position_end : n ≤ j → None ≡ r
    unfolding position
    position_end h = sym (inv ∙ rw (drop_end xs j (omega arith)))

  module _ (r : Option A) (inv : r ≡ find p (drop j xs)) where
    find_step : (d : A) → j < n → r ≡ cond (p (get_or xs j d)) (Some (get_or xs j d)) (find p (drop (j + 1) xs))
    unfolding find
    find_step d h = let h' : j < length xs = omega arith in inv ∙ rw (drop_step d xs j)

    pub find_found : (d : A) (b : Bool) → j < n → b ≡ p (get_or xs j d) → b ≡ true → Some (get_or xs j d) ≡ r
    find_found d b h q f = sym (find_step d h ∙ rw (← q, f))

    pub find_next : (d : A) (b : Bool) → j < n → b ≡ p (get_or xs j d) → b ≡ false → r ≡ find p (drop (j + 1) xs)
    find_next d b h q f = find_step d h ∙ rw (← q, f)

    pub find_end : n ≤ j → None ≡ r
    unfolding find
    find_end h = sym (inv ∙ rw (drop_end xs j (omega arith)))

  module _ (r m : ℕ) (inv : r ≡ m + count p (drop j xs)) where
    count_step : (d : A) → j < n → r ≡ m + length (cond (p (get_or xs j d)) (get_or xs j d ∷ filter p (drop (j + 1) xs)) (filter p (drop (j + 1) xs)))
    unfolding filter
    count_step d h = let h' : j < length xs = omega arith in inv ∙ rw (drop_step d xs j)

    pub count_found : (d : A) (b : Bool) → j < n → b ≡ p (get_or xs j d) → b ≡ true → r ≡ m + 1 + count p (drop (j + 1) xs)
    count_found d b h q f =
        let s : r ≡ m + suc (count p (drop (j + 1) xs)) = count_step d h ∙ rw (← q, f) in
        omega arith

    pub count_next : (d : A) (b : Bool) → j < n → b ≡ p (get_or xs j d) → b ≡ false → r ≡ m + count p (drop (j + 1) xs)
    count_next d b h q f = count_step d h ∙ rw (← q, f)

    pub count_end : n ≤ j → m ≡ r
    unfolding filter
    count_end h =
        let s : r ≡ m + 0 = inv ∙ rw (drop_end xs j (omega arith)) in
        omega arith

-- the last of y and what is behind it
later : Bool → Option ℕ → Option ℕ
later b o = elim o [ Some k ↦ Some (suc k) | None ↦ cond b (Some 0) None ]

module _ {A : Type 0} (p : A → Bool) where
  last_snoc : (xs : List A) (x : A) → last_position p (xs ++ (x ∷ [])) ≡ cond (p x) (Some (length xs)) (last_position p xs)
  unfolding last_position later
  last_snoc [] x = refl
  last_snoc (y ∷ xs) x = rw (last_snoc xs x) (go (p x))
    where
      go : (b : Bool) → later (p y) (cond b (Some (length xs)) (last_position p xs)) ≡ cond b (Some (suc (length xs))) (later (p y) (last_position p xs))
      go true = refl
      go false = refl

  last_take : (xs : List A) (i : ℕ) (d : A) → i < length xs → last_position p (take (suc i) xs) ≡ cond (p (get_or xs i d)) (Some i) (last_position p (take i xs))
  last_take xs i d h =
      let m : length (take i xs) ≡ i = length-take-le i xs (omega arith) in
      rw (take-suc xs i d h, last_snoc (take i xs) (get_or xs i d), m)

  module _ (xs : List A) (j : ℕ) (r : Option ℕ) (inv : r ≡ last_position p (take j xs)) where
    last_step : (d : A) → 0 < j → j ≤ length xs → r ≡ cond (p (get_or xs (j - 1) d)) (Some (j - 1)) (last_position p (take (j - 1) xs))
    last_step d h g =
        let z : j ≡ suc (j - 1) = omega arith in
        inv ∙ ap (λ (k : ℕ). last_position p (take k xs)) z ∙ last_take xs (j - 1) d (omega arith)

    pub last_found : (d : A) (b : Bool) → 0 < j → j ≤ length xs → b ≡ p (get_or xs (j - 1) d) → b ≡ true → Some (j - 1) ≡ r
    last_found d b h g q f = sym (last_step d h g ∙ rw (← q, f))

    pub last_next : (d : A) (b : Bool) → 0 < j → j ≤ length xs → b ≡ p (get_or xs (j - 1) d) → b ≡ false → r ≡ last_position p (take (j - 1) xs)
    last_next d b h g q f = last_step d h g ∙ rw (← q, f)

    pub last_end : j ≤ 0 → None ≡ r
    unfolding last_position
    last_end h = let z : j ≡ 0 = omega arith in sym (inv ∙ rw z)

pub ruleset loops = (any_found, any_next, any_end, all_found, all_next, all_end, position_found, position_next, position_end, find_found, find_next, find_end, last_found, last_next, last_end, count_found, count_next, count_end)
