-- The table of names and the place that a hash gives: what is computed once, over the whole table, and the rules for the functions that look
-- into it.
--   two_yes, two_no, two_low, two_high, three_yes, three_no, three_low    a text that is compared byte by byte
--   letters_is, letters_two, letters_three    the name in a cell
--   below                what a test finds of every number below n
--   cell_is              the cell at place p holds the name at place p
--   place_start, place_least, place_only   an entry of the hashes is a place, that of the name with this hash
--   place_found, place_none   the text is the name at that place; it is not, so it is no name
--   first_row            the name of a family stands in the first column
-- Assumes nothing.
use Rattle.std.specs.Prelude.{Option, None, Some}
use Rattle.std.specs.Option.{option_map}
use mathlib.Core.Path.{◌≡◌, refl, sym, ap, ◌∙◌}
use mathlib.Core.Bool.{Bool, true, false, ◌&&◌, and-true, cond}
use mathlib.Core.List.{List, [], ◌∷◌}
use Prim.Native.Nat.{ℕ, zero, suc, ◌+◌, ◌*◌, ◌-◌, ◌≤◌, ◌<◌}
use native.Mathlib.Nat.{add-zero, add-suc, suc-add, zero-add, le_of_suc-le-suc, not-suc-le-zero}
use lib.Dec.{eqb, leb, ltb}
use native.Mathlib.Omega.{arith}
use borrow.Author.Tests.{eq-eqb, ne_eqb, eqb-true, leb-true, ltb-true}
use lib.ListN.{length, get_or, take, drop}
use lib.Seq.{take_all}
use Rattle.std.specs.Bool.{nat_eq}
use Rattle.definitions.specs.Lists.{◌≟◌, all, range, up_to, position, concat, part}
use Rattle.definitions.specs.Family.{legacy}
use Rattle.text.proofs.Parts.{part_tail}
use Rattle.text.proofs.Texts.{≟_eq, ≟_length, ne_≟}
use Rattle.legacy.specs.Table.{letters, all_names, name_at, hash, row_name}

-- A text, byte by byte

module _ (s : List ℕ) (a b : ℕ) where
  pub two_yes : 2 ≤ length s → length s < 3 → get_or s 0 0 ≡ a → nat_eq (get_or s 1 0) b ≡ (s ≟ a ∷ b ∷ [])
  unfolding ◌≟◌
  two_yes l m e = go s l m e
    where
      go : (s : List ℕ) → 2 ≤ length s → length s < 3 → get_or s 0 0 ≡ a → nat_eq (get_or s 1 0) b ≡ (s ≟ a ∷ b ∷ [])
      go [] l m e = absurd (omega arith)
      go (x ∷ []) l m e = absurd (omega arith)
      go (x ∷ y ∷ []) l m e = rw (eq-eqb x a e, and-true (eqb y b)) refl
      go (x ∷ y ∷ z ∷ t) l m e = absurd (omega arith)

  pub two_no : (get_or s 0 0 ≡ a → ⊥) → nat_eq (get_or s 0 0) a ≡ (s ≟ a ∷ b ∷ [])
  two_no e = rw (ne_eqb (get_or s 0 0) a e) (sym (ne_≟ s (a ∷ b ∷ []) (λ q. e (ap (λ (t : List ℕ). get_or t 0 0) q))))

  pub two_low : length s < 2 → false ≡ (s ≟ a ∷ b ∷ [])
  two_low l = sym (≟_length s (a ∷ b ∷ []) (λ e. omega arith))

  pub two_high : 3 ≤ length s → false ≡ (s ≟ a ∷ b ∷ [])
  two_high l = sym (≟_length s (a ∷ b ∷ []) (λ e. omega arith))

  module _ (c : ℕ) where
    three_from : (s : List ℕ) (r : Bool) → 1 ≤ length s → get_or s 0 0 ≡ a → r ≡ (drop 1 s ≟ b ∷ c ∷ []) → r ≡ (s ≟ a ∷ b ∷ c ∷ [])
    unfolding ◌≟◌
    three_from [] r l e q = absurd (omega arith)
    three_from (x ∷ t) r l e q = rw (eq-eqb x a e) q

    pub three_yes : (r : Bool) → 1 ≤ length s → get_or s 0 0 ≡ a → r ≡ (part 1 (length s) s ≟ b ∷ c ∷ []) → r ≡ (s ≟ a ∷ b ∷ c ∷ [])
    three_yes r l e q = three_from s r l e (q ∙ ap (λ (t : List ℕ). t ≟ b ∷ c ∷ []) (part_tail s 1))

    pub three_no : (get_or s 0 0 ≡ a → ⊥) → nat_eq (get_or s 0 0) a ≡ (s ≟ a ∷ b ∷ c ∷ [])
    three_no e = rw (ne_eqb (get_or s 0 0) a e) (sym (ne_≟ s (a ∷ b ∷ c ∷ []) (λ q. e (ap (λ (t : List ℕ). get_or t 0 0) q))))

    pub three_low : length s < 1 → false ≡ (s ≟ a ∷ b ∷ c ∷ [])
    three_low l = sym (≟_length s (a ∷ b ∷ c ∷ []) (λ e. omega arith))

pub ruleset two = (two_yes, two_no, two_low, two_high)

pub ruleset three = (three_yes, three_no, three_low)

-- The name in a cell

pub letters_is : (s cell : List ℕ) (n : ℕ) → length cell ≡ 3 → n ≡ cond (eqb (get_or cell 2 0) 0) 2 3 → (s ≟ take n cell) ≡ (s ≟ letters cell)
letters_is s cell n h e = rw e (go (eqb (get_or cell 2 0) 0))
  where
    go : (b : Bool) → (s ≟ take (cond b 2 3) cell) ≡ (s ≟ cond b (take 2 cell) cell)
    go true = refl
    go false = rw (take_all 3 cell (omega arith))

module _ (s cell : List ℕ) (r : Bool) (h : length cell ≡ 3) where
  pub letters_two : get_or cell 2 0 ≡ 0 → r ≡ (s ≟ get_or cell 0 0 ∷ get_or cell 1 0 ∷ []) → r ≡ (s ≟ letters cell)
  letters_two g e = e ∙ ap (s ≟◌) (two cell h) ∙ letters_is s cell 2 h (rw (eq-eqb (get_or cell 2 0) 0 g) refl)
    where
      two : (c : List ℕ) → length c ≡ 3 → get_or c 0 0 ∷ get_or c 1 0 ∷ [] ≡ take 2 c
      two [] h = absurd (omega arith)
      two (x ∷ []) h = absurd (omega arith)
      two (x ∷ y ∷ c) h = refl

  pub letters_three : (get_or cell 2 0 ≡ 0 → ⊥) → r ≡ (s ≟ get_or cell 0 0 ∷ get_or cell 1 0 ∷ get_or cell 2 0 ∷ []) → r ≡ (s ≟ letters cell)
  letters_three g e = e ∙ ap (s ≟◌) (three cell h) ∙ letters_is s cell 3 h (rw (ne_eqb (get_or cell 2 0) 0 g) refl)
    where
      three : (c : List ℕ) → length c ≡ 3 → get_or c 0 0 ∷ get_or c 1 0 ∷ get_or c 2 0 ∷ [] ≡ take 3 c
      three [] h = absurd (omega arith)
      three (x ∷ []) h = absurd (omega arith)
      three (x ∷ y ∷ []) h = absurd (omega arith)
      three (x ∷ y ∷ z ∷ c) h = refl

pub ruleset cells = (letters_two, letters_three)

-- A test of every number below n

range_at : (p : ℕ → Bool) (a n i : ℕ) → all p (range a n) ≡ true → i < n → p (a + i) ≡ true
unfolding all range
range_at p a zero i t h = absurd (not-suc-le-zero h)
range_at p a (suc n) zero t h = rw (add-zero a) (first (p a) t)
  where
    first : (b : Bool) → (b && all p (range (suc a) n)) ≡ true → b ≡ true
    first true e = refl
    first false e = e
range_at p a (suc n) (suc i) t h =
    rw (add-suc a i, ← suc-add a i) (range_at p (suc a) n i (rest (p a) t) (le_of_suc-le-suc h))
  where
    rest : (b : Bool) → (b && all p (range (suc a) n)) ≡ true → all p (range (suc a) n) ≡ true
    rest true e = e
    rest false e = cc

pub below : (p : ℕ → Bool) (n i : ℕ) → all p (up_to n) ≡ true → i < n → p i ≡ true
below p n i t h = rw zero-add at (range_at p 0 n i t h)

-- The cells

abbrev cell_right : List (List ℕ) → List ℕ → ℕ → Bool
cell_right t d p = letters (get_or t p d) ≟ name_at p

pub cell_is : (t : List (List ℕ)) (d : List ℕ) (p : ℕ) (s : List ℕ) (r : Bool)
    → all (cell_right t d) (up_to 36) ≡ true → p < 36 → r ≡ (s ≟ letters (get_or t p d)) → r ≡ (s ≟ name_at p)
cell_is t d p s r right h q = q ∙ ap (s ≟◌) (≟_eq (letters (get_or t p d)) (name_at p) (below (cell_right t d) 36 p right h))

pub first_row : (t : List (List ℕ)) (d : List ℕ) (i : ℕ) (s : List ℕ) (r : Bool)
    → all (λ i. letters (get_or t (4 * i) d) ≟ row_name i) (up_to 8) ≡ true → i < 8 → r ≡ (s ≟ letters (get_or t (4 * i) d)) → r ≡ (s ≟ row_name i)
first_row t d i s r right h q =
    q ∙ ap (s ≟◌) (≟_eq (letters (get_or t (4 * i) d)) (row_name i) (below (λ i. letters (get_or t (4 * i) d) ≟ row_name i) 8 i right h))

-- The hashes

module _ (t : List ℕ) (h c : ℕ) (e : c ≡ get_or t h 0) where
  pub place_start : all (λ h. leb 48 (get_or t h 0)) (up_to 64) ≡ true → h < 64 → 48 ≤ c
  place_start right g = rw e (leb-true 48 (get_or t h 0) (below (λ h. leb 48 (get_or t h 0)) 64 h right g))

  pub place_least : all (λ h. ltb (get_or t h 0 - 48) 36) (up_to 64) ≡ true → h < 64 → c - 48 < 36
  place_least right g = rw e (ltb-true (get_or t h 0 - 48) 36 (below (λ h. ltb (get_or t h 0 - 48) 36) 64 h right g))

  pub place_only : all (λ q. eqb (get_or t (hash (name_at q)) 0 - 48) q) (up_to 36) ≡ true → (q : ℕ) → q < 36 → hash (name_at q) ≡ h → c - 48 ≡ q
  place_only right q g f =
      rw (e, ← f) (eqb-true (get_or t (hash (name_at q)) 0 - 48) q (below (λ q. eqb (get_or t (hash (name_at q)) 0 - 48) q) 36 q right g))

-- The place of a text among the names

pub position_at : {A : Type 0} (p : A → Bool) (d : A) (xs : List A) (k : ℕ) → position p xs ≡ Some k → (k < length xs) × (p (get_or xs k d) ≡ true)
unfolding position
position_at p d [] k e = let z : ◌≡◌ {A = ℕ} 0 1 = cc in absurd (omega arith)
position_at {A} p d (x ∷ xs) k e = go (p x) refl e (position_at p d xs)
  where
    later : (o : Option ℕ) → position p xs ≡ o → option_map suc o ≡ Some k
        → ((j : ℕ) → position p xs ≡ Some j → (j < length xs) × (p (get_or xs j d) ≡ true)) → (k < suc (length xs)) × (p (get_or (x ∷ xs) k d) ≡ true)
    later None f g h = let z : ◌≡◌ {A = ℕ} 0 1 = cc in absurd (omega arith)
    later (Some j) f g h =
        let z : suc j ≡ k = cc in
        let y = h j f in
        (omega arith, rw (← z) y.1)

    go : (b : Bool) → p x ≡ b → cond b (Some 0) (option_map suc (position p xs)) ≡ Some k
        → ((j : ℕ) → position p xs ≡ Some j → (j < length xs) × (p (get_or xs j d) ≡ true)) → (k < suc (length xs)) × (p (get_or (x ∷ xs) k d) ≡ true)
    go true f g h = let z : 0 ≡ k = cc in (omega arith, rw (← z) f)
    go false f g h = later (position p xs) refl g h

is_some_of : Option ℕ → ℕ → Bool
is_some_of None k = false
is_some_of (Some j) k = eqb j k

some_of : (o : Option ℕ) (k : ℕ) → is_some_of o k ≡ true → Some k ≡ o
unfolding is_some_of
some_of None k e = let z : ◌≡◌ {A = ℕ} 0 1 = cc in absurd (omega arith)
some_of (Some j) k e = ap Some (sym (eqb-true j k e))

own_place : (p : ℕ) → p < 36 → Some p ≡ position (name_at p ≟◌) all_names
unfolding all range ◌≟◌ concat legacy all_names position is_some_of
own_place p h = some_of (position (name_at p ≟◌) all_names) p (below (λ p. is_some_of (position (name_at p ≟◌) all_names) p) 36 p refl h)

pub name_count : length all_names ≡ 36
unfolding concat legacy all_names
name_count = refl

module _ (s : List ℕ) (p : ℕ) (b : Bool) (e : b ≡ (s ≟ name_at p)) where
  pub place_found : p < 36 → b ≡ true → Some p ≡ position (s ≟◌) all_names
  place_found h f = rw (≟_eq s (name_at p) (sym e ∙ f)) (own_place p h)

  pub place_none : (h : ℕ) → h ≡ hash s → ((q : ℕ) → q < 36 → hash (name_at q) ≡ h → p ≡ q) → b ≡ false → None ≡ position (s ≟◌) all_names
  place_none h g only f = go (position (s ≟◌) all_names) refl
    where
      go : (o : Option ℕ) → position (s ≟◌) all_names ≡ o → None ≡ o
      go None q = refl
      go (Some k) q =
          let y = position_at (s ≟◌) [] all_names k q in
          let same : s ≡ name_at k = ≟_eq s (name_at k) y.1 in
          let z : p ≡ k = only k (omega (arith, name_count)) (sym (g ∙ ap hash same)) in
          let w : (s ≟ name_at p) ≡ true = rw z y.1 in
          let x : ◌≡◌ {A = ℕ} 0 1 = cc in
          absurd (omega arith)
