-- Numbering the families line by line.
--   families_next       one line more: its family, if it is new, stands behind those before it
--   families_front      the families of the lines before line i are the first of all
--   families_few        they are at most as many as the lines before
--   defined_known       the family that a line defines is among all
--   linked_more         one family more in its chain
--   kept_other, kept_same    the word of a row written
--   table_added         one family more in the table, and its place at the row of its name
--   linked_none         no family in a chain
--   kept_row, kept_behind    rules for `keep_row`
--   emptied_by, linked_by, added_by, added_line, search_by    rules for `empty`, `link`, `add`, `add_line` and `search_line`
--   rehash_start, rehash_next, rehash_end    rules for `rehash`
--   placed_other, placed_known, placed_new, placed_table, placed_again    rules for `place_register` and `place_line`
--   ready, defs_inside, place_fits, numbered_next, numbered_start, numbered_end     rules for `number_line` and `families`
-- Assumes nothing.
use Rattle.std.specs.Prelude.{Option, None, Some}
use Rattle.std.specs.Option.{option_map}
use Prim.Native.Nat.{ℕ, zero, suc, ◌+◌, ◌*◌, ◌-◌, ◌<◌, ◌≤◌, max}
use mathlib.Core.Path.{◌≡◌, refl, sym, ap, ◌∙◌}
use mathlib.Core.Logic.{◌⊎◌, inl, inr}
use mathlib.Core.Bool.{Bool, true, false, cond, ◌||◌, not, and-true}
use mathlib.Core.List.{List, [], ◌∷◌, ◌++◌, map, append-nil, append_assoc, map-append}
use native.Mathlib.Omega.{arith}
use native.Mathlib.Nat.{add-zero}
use native.Mathlib.Numerals.{add-one}
use lib.Dec.{eqb, ltb}
use borrow.Author.Tests.{eqb-true, eq-eqb, lt-ltb, le-ltb, ltb-true}
use lib.ListN.{length, get_or, set, take, drop, replicate, length-append, length-drop, length-set, length-replicate, get_or-append}
use lib.Seq.{take-append_seam, get_or-append_seam, get_or-append-add, get_or-drop, length-take-le, get_or-set_same, get_or-set_other}
use Rattle.definitions.specs.Lists.{any, filter, concat, range, position, to_list, is_some, ◌≟◌}
use Rattle.definitions.specs.Model.{Line, token, line}
use Rattle.definitions.specs.Family.{Family, family}
use Rattle.definitions.specs.Statements.{defines}
use Rattle.definitions.specs.Recover.{distinct, defined_families}
use Rattle.theory.proofs.Bools.{clash, same_test, eq_or_lt}
use Rattle.theory.proofs.ListLaws.{replicate_default, any_filter, ≟_true, ≟_self}
use Rattle.text.specs.Zeroed.{zeroed}
use Rattle.definitions.specs.Columns.{listing}
use Rattle.model.proofs.Decode.{length_listing}
use Rattle.family.specs.declared.Register.{Register}
use Rattle.legacy.specs.Table.{row_name}
use Rattle.family.specs.Register.{family_of, named}
use Rattle.families.specs.Families.{hash, hash_of, latest, place, place_of, multiplier, Linked, Table, families_before, kept, linked, added, emptied, of_register, Ready, Added, Placed, place_defined, defined_at, Numbered}
use Rattle.families.proofs.Lists.{any_snoc, range_snoc}
use Rattle.families.proofs.Finding.{unique_families, place_here, place_taken, place_more, family_at}

-- Each once, with one more at the end

abbrev is : List ℕ → List ℕ → Bool
is f g = g ≟ f

is_flip : (f g : List ℕ) → (g ≟ f) ≡ (f ≟ g)
is_flip f g = same_test _ _ (λ e. rw (≟_true g f e) (≟_self f)) (λ e. rw (≟_true f g e) (≟_self g))

filter_append : (p : List ℕ → Bool) (xs : List (List ℕ)) (x : List ℕ) → filter p (xs ++ (x ∷ [])) ≡ filter p xs ++ cond (p x) (x ∷ []) []
unfolding filter
filter_append p [] x = refl
filter_append p (y ∷ xs) x = go (p y) (filter_append p xs x)
  where
    go : (b : Bool) → filter p (xs ++ (x ∷ [])) ≡ filter p xs ++ cond (p x) (x ∷ []) []
        → cond b (y ∷ filter p (xs ++ (x ∷ []))) (filter p (xs ++ (x ∷ []))) ≡ cond b (y ∷ filter p xs) (filter p xs) ++ cond (p x) (x ∷ []) []
    go true e = ap (y ∷◌) e
    go false e = e

distinct_snoc : (xs : List (List ℕ)) (x : List ℕ) → distinct (xs ++ (x ∷ [])) ≡ cond (any (is x) xs) (distinct xs) (distinct xs ++ (x ∷ []))
unfolding distinct any filter
distinct_snoc [] x = refl
distinct_snoc (y ∷ xs) x = ap (λ (l : List (List ℕ)). y ∷ filter (λ g. not (g ≟ y)) l) (distinct_snoc xs x) ∙ go (any (is x) xs) (y ≟ x) refl
  where
    rest : List (List ℕ)
    rest = filter (λ g. not (g ≟ y)) (distinct xs)

    go : (b c : Bool) → (y ≟ x) ≡ c
        → ◌≡◌ {A = List (List ℕ)} (y ∷ filter (λ g. not (g ≟ y)) (cond b (distinct xs) (distinct xs ++ (x ∷ [])))) (cond (c || b) (y ∷ rest) ((y ∷ rest) ++ (x ∷ [])))
    go true true e = refl
    go true false e = refl
    go false c e = ap (y ∷◌) (filter_append (λ g. not (g ≟ y)) (distinct xs) x) ∙ last c e
      where
        last : (c : Bool) → (y ≟ x) ≡ c → ◌≡◌ {A = List (List ℕ)} (y ∷ (rest ++ cond (not (x ≟ y)) (x ∷ []) [])) (cond (c || false) (y ∷ rest) ((y ∷ rest) ++ (x ∷ [])))
        last true e = rw (is_flip y x, e) (ap (y ∷◌) (append-nil rest))
        last false e = rw (is_flip y x, e)

any_distinct : (f : List ℕ) (xs : List (List ℕ)) → any (is f) (distinct xs) ≡ any (is f) xs
unfolding any distinct
any_distinct f [] = refl
any_distinct f (y ∷ ys) = go (y ≟ f) refl (any_distinct f ys)
  where
    go : (b : Bool) → (y ≟ f) ≡ b → any (is f) (distinct ys) ≡ any (is f) ys
        → (b || any (is f) (filter (λ g. not (g ≟ y)) (distinct ys))) ≡ (b || any (is f) ys)
    go true e r = refl
    go false e r = any_filter (is f) (λ g. not (g ≟ y)) f (λ g q. sym (≟_true g f q)) (distinct ys) ∙ rw (r, is_flip y f, e) (and-true (any (is f) ys))

-- The families of the lines before a line

concat_append : (xss : List (List (List ℕ))) (xs : List (List ℕ)) → concat (xss ++ (xs ∷ [])) ≡ concat xss ++ xs
unfolding concat
concat_append [] xs = append-nil xs
concat_append (ys ∷ xss) xs = ap (ys ++◌) (concat_append xss xs) ∙ sym (append_assoc ys (concat xss) xs)

-- with the family o of one line more
abbrev more : List (List ℕ) → Option (List ℕ) → List (List ℕ)
more fs None = fs
more fs (Some f) = cond (any (is f) fs) fs (fs ++ (f ∷ []))

more_front : (fs : List (List ℕ)) (o : Option (List ℕ)) → (ts : List (List ℕ)) × (more fs o ≡ fs ++ ts) × (length ts ≤ 1)
more_front fs None = ([], sym (append-nil fs), omega arith)
more_front fs (Some f) = pick (any (is f) fs)
  where
    pick : (b : Bool) → (ts : List (List ℕ)) × (cond b fs (fs ++ (f ∷ [])) ≡ fs ++ ts) × (length ts ≤ 1)
    pick true = ([], sym (append-nil fs), omega arith)
    pick false = (f ∷ [], refl, omega arith)

module _ (L : List Line) where
  abbrev names_in : ℕ → List (List ℕ)
  names_in n = concat (map (λ j. to_list (defines (line L j))) (range 1 n))

  names_next : (n : ℕ) → names_in (suc n) ≡ names_in n ++ to_list (defines (line L (1 + n)))
  names_next n =
      ap (λ (js : List ℕ). concat (map (λ j. to_list (defines (line L j))) js)) (range_snoc 1 n)
      ∙ ap concat (map-append (λ j. to_list (defines (line L j))) (range 1 n) ((1 + n) ∷ []))
      ∙ concat_append (map (λ j. to_list (defines (line L j))) (range 1 n)) (to_list (defines (line L (1 + n))))

  pub families_next : (i : ℕ) → 0 < i → families_before L (i + 1) ≡ more (families_before L i) (defines (line L i))
  unfolding families_before
  families_next i h =
      let a : (i + 1) - 1 ≡ suc (i - 1) = omega arith in
      let b : 1 + (i - 1) ≡ i = omega arith in
      ap (λ (n : ℕ). distinct (names_in n)) a ∙ ap distinct (names_next (i - 1))
      ∙ ap (λ (j : ℕ). distinct (names_in (i - 1) ++ to_list (defines (line L j)))) b ∙ go (defines (line L i))
    where
      go : (o : Option (List ℕ)) → distinct (names_in (i - 1) ++ to_list o) ≡ more (distinct (names_in (i - 1))) o
      go None = ap distinct (append-nil (names_in (i - 1)))
      go (Some f) = distinct_snoc (names_in (i - 1)) f
          ∙ ap (λ (b : Bool). cond b (distinct (names_in (i - 1))) (distinct (names_in (i - 1)) ++ (f ∷ []))) (sym (any_distinct f (names_in (i - 1))))

  grows : (i : ℕ) → 0 < i → (k : ℕ) → (ts : List (List ℕ)) × (families_before L (i + k) ≡ families_before L i ++ ts)
  grows i h zero = ([], ap (families_before L) (add-zero i) ∙ sym (append-nil (families_before L i)))
  grows i h (suc k) =
      let w = grows i h k in
      let s = more_front (families_before L (i + k)) (defines (line L (i + k))) in
      let a : i + suc k ≡ (i + k) + 1 = omega arith in
      (w.0 ++ s.0, ap (families_before L) a ∙ families_next (i + k) (omega arith) ∙ s.1 ∙ ap (◌++ s.0) w.1 ∙ append_assoc (families_before L i) w.0 s.0)

  pub families_all : families_before L (length L) ≡ defined_families L
  unfolding families_before
  families_all = refl

  module _ (i : ℕ) (p : 0 < i) (h : i ≤ length L) where
    rest : (ts : List (List ℕ)) × (defined_families L ≡ families_before L i ++ ts)
    rest =
        let w = grows i p (length L - i) in
        let a : i + (length L - i) ≡ length L = omega arith in
        (w.0, sym families_all ∙ ap (families_before L) (sym a) ∙ w.1)

    pub families_front : take (length (families_before L i)) (defined_families L) ≡ families_before L i
    families_front = rw rest.1 (take-append_seam (families_before L i) rest.0)

    pub families_size : length (families_before L i) ≤ length (defined_families L)
    families_size = rw (rest.1, length-append) (omega arith)

    pub families_at : (k : ℕ) → k < length (families_before L i) → get_or (defined_families L) k [] ≡ get_or (families_before L i) k []
    families_at k l = rw rest.1 (get_or-append (families_before L i) rest.0 [] k l)

  pub families_few : (i : ℕ) → length (families_before L (suc i)) ≤ i
  families_few zero = unfold families_before range concat distinct in omega arith
  families_few (suc i) =
      let a : suc (suc i) ≡ suc i + 1 = omega arith in
      let w = more_front (families_before L (suc i)) (defines (line L (suc i))) in
      rw (a, families_next (suc i) (omega arith), w.1, length-append) (omega (arith, families_few i, w.2))

-- The place of a family among some

pub place_cases : (fs : List (List ℕ)) (f : List ℕ)
    → ((place fs f ≡ 0) × (any (is f) fs ≡ false)) ⊎ ((k : ℕ) × (place fs f ≡ suc k) × (k < length fs) × (get_or fs k [] ≡ f) × (any (is f) fs ≡ true))
unfolding place position any
place_cases [] f = inl (refl, refl)
place_cases (g ∷ gs) f = go (g ≟ f) refl (position (λ g. g ≟ f) gs) (place_cases gs f)
  where
    at : Option ℕ → ℕ
    at o = elim o [ None ↦ 0 | Some k ↦ suc k ]

    go : (b : Bool) → (g ≟ f) ≡ b → (o : Option ℕ)
        → ((at o ≡ 0) × (any (is f) gs ≡ false)) ⊎ ((k : ℕ) × (at o ≡ suc k) × (k < length gs) × (get_or gs k [] ≡ f) × (any (is f) gs ≡ true))
        → ((at (cond b (Some 0) (option_map suc o)) ≡ 0) × ((b || any (is f) gs) ≡ false))
        ⊎ ((k : ℕ) × (at (cond b (Some 0) (option_map suc o)) ≡ suc k) × (k < suc (length gs)) × (get_or (g ∷ gs) k [] ≡ f) × ((b || any (is f) gs) ≡ true))
    go true e o r = inr (0, refl, omega arith, ≟_true g f e, refl)
    go false e None (inl r) = inl (refl, r.1)
    go false e (Some k) (inl r) = absurd (omega (arith, r.0))
    go false e None (inr r) = absurd (omega (arith, r.1))
    go false e (Some k) (inr r) = let z : k ≡ r.0 = omega (arith, r.1) in inr (suc r.0, ap (λ (j : ℕ). suc (suc j)) z, omega (arith, r.2), r.3, r.4)

any_front : (p : List ℕ → Bool) (fs gs : List (List ℕ)) → any p fs ≡ true → any p (fs ++ gs) ≡ true
unfolding any
any_front p [] gs e = clash e refl
any_front p (f ∷ fs) gs e = go (p f) e (any_front p fs gs)
  where
    go : (b : Bool) → (b || any p fs) ≡ true → (any p fs ≡ true → any p (fs ++ gs) ≡ true) → (b || any p (fs ++ gs)) ≡ true
    go true e r = refl
    go false e r = r e

more_has : (fs : List (List ℕ)) (f : List ℕ) → any (is f) (more fs (Some f)) ≡ true
more_has fs f = go (any (is f) fs) refl
  where
    go : (b : Bool) → any (is f) fs ≡ b → any (is f) (cond b fs (fs ++ (f ∷ []))) ≡ true
    go true e = e
    go false e = any_snoc (is f) fs f ∙ rw (e, ≟_self f)

-- the family that a line defines is among all
pub defined_known : (L : List Line) (i : ℕ) → 0 < i → i < length L → (f : List ℕ) → defines (line L i) ≡ Some f → place (defined_families L) f ≡ 0 → ⊥
defined_known L i p h f e z =
    let r = rest L (i + 1) (omega arith) (omega arith) in
    let before : any (is f) (families_before L (i + 1)) ≡ true =
    ap (any (is f)) (families_next L i p ∙ ap (more (families_before L i)) e) ∙ more_has (families_before L i) f in
    let all : any (is f) (defined_families L) ≡ true = ap (any (is f)) r.1 ∙ any_front (is f) (families_before L (i + 1)) r.0 before in
    elim (place_cases (defined_families L) f) [ inl g ↦ clash all g.1 | inr g ↦ omega (arith, z, g.1) ]

-- One family more

-- one family more in its chain
module _ (L : List Line) (count k : ℕ) (t : List ℕ) (T : Linked L count k t) (h : ℕ) (room : 256 + 2 * count ≤ length t) (inside : k < count)
    (low : h < 247) (is_hash : h ≡ hash (multiplier t) (get_or (defined_families L) k [])) where
  abbrev one : List ℕ
  one = set t (256 + 2 * k) (get_or t h 0)

  other : (j : ℕ) → (j ≡ 256 + 2 * k → ⊥) → (j ≡ h → ⊥) → get_or (linked t k h) j 0 ≡ get_or t j 0
  unfolding linked
  other j a b = get_or-set_other one h j (k + 1) 0 b ∙ get_or-set_other t (256 + 2 * k) j (get_or t h 0) 0 a

  same_multiplier : multiplier (linked t k h) ≡ multiplier t
  same_multiplier = other 247 (λ q. omega arith) (λ q. omega arith)

  head_at : get_or (linked t k h) h 0 ≡ suc k
  unfolding linked
  head_at = get_or-set_same one h (k + 1) 0 (rw length-set (omega arith)) ∙ add-one k

  next_at : get_or (linked t k h) (256 + 2 * k) 0 ≡ get_or t h 0
  unfolding linked
  next_at = get_or-set_other one h (256 + 2 * k) (k + 1) 0 (λ q. omega arith) ∙ get_or-set_same t (256 + 2 * k) (get_or t h 0) 0 (omega arith)

  latest_new : (g : ℕ) (b : Bool) → eqb h g ≡ b
      → latest (multiplier t) (defined_families L) g (suc k) ≡ cond b (suc k) (latest (multiplier t) (defined_families L) g k)
  unfolding latest
  latest_new g b e = ap (λ (c : Bool). cond c (suc k) (latest (multiplier t) (defined_families L) g k)) (ap (λ (v : ℕ). eqb v g) (sym is_hash) ∙ e)

  head : (g : ℕ) → g < 247 → (b : Bool) → eqb h g ≡ b → get_or (linked t k h) g 0 ≡ latest (multiplier t) (defined_families L) g (suc k)
  head g l true e = ap (λ (j : ℕ). get_or (linked t k h) j 0) (sym (eqb-true h g e)) ∙ head_at ∙ sym (latest_new g true e)
  head g l false e = other g (λ q. omega arith) (λ q. clash (eq-eqb h g (sym q)) e) ∙ T.heads g l ∙ sym (latest_new g false e)

  own : (j : ℕ) → j ≡ k → get_or (linked t k h) (256 + 2 * j) 0 ≡ latest (multiplier t) (defined_families L) (hash (multiplier t) (get_or (defined_families L) j [])) j
  own j e = rw e (next_at ∙ T.heads h low ∙ ap (λ (g : ℕ). latest (multiplier t) (defined_families L) g k) is_hash)

  pub linked_more : Linked L count (suc k) (linked t k h)
  linked_more = record {
    size = T.size;
    heads = λ g l. rw same_multiplier (head g l (eqb h g) refl);
    rows = λ i l. other (248 + i) (λ q. omega arith) (λ q. omega arith) ∙ T.rows i l;
    next = λ j l. rw same_multiplier (elim (eq_or_lt l) [ inl e ↦ own j e | inr m ↦ other (256 + 2 * j) (λ e. omega arith) (λ e. omega arith) ∙ T.next j m ]);
    first = λ j l. rw (other (257 + 2 * j) (λ e. omega arith) (λ e. omega arith)) (T.first j l);
  }

-- the word of a row is written
module _ (t : List ℕ) (k c : ℕ) where
  kept_other : (j : ℕ) → (k < 8 → j ≡ 248 + k → ⊥) → get_or (kept t k c) j 0 ≡ get_or t j 0
  unfolding kept
  kept_other j n = go (ltb k 8) refl
    where
      go : (b : Bool) → ltb k 8 ≡ b → get_or (cond b (set t (248 + k) c) t) j 0 ≡ get_or t j 0
      go true e = get_or-set_other t (248 + k) j c 0 (n (ltb-true k 8 e))
      go false e = refl

  kept_same : k < 8 → 256 ≤ length t → get_or (kept t k c) (248 + k) 0 ≡ c
  unfolding kept
  kept_same h room = rw (lt-ltb k 8 h) (get_or-set_same t (248 + k) c 0 (omega arith))

  length_kept : length (kept t k c) ≡ length t
  unfolding kept
  length_kept = go (ltb k 8)
    where
      go : (b : Bool) → length (cond b (set t (248 + k) c) t) ≡ length t
      go true = simp length-set
      go false = refl

-- the row and the line of one family more are written
module _ (L : List Line) (count : ℕ) (t : List ℕ) (T : Table L count t) (f : List ℕ) (i row : ℕ) (room : 256 + 2 * suc count ≤ length t)
    (at_count : get_or (defined_families L) count [] ≡ f) (inside : count < length (defined_families L)) (defines_f : defines (line L i) ≡ Some f)
    (row_is : (j : ℕ) → j < 8 → (f ≟ row_name j) ≡ eqb row j) where
  abbrev with_row : List ℕ
  with_row = kept t row (count + 1)

  abbrev with_line : List ℕ
  with_line = set with_row (257 + 2 * count) i

  beside : (j : ℕ) → (row < 8 → j ≡ 248 + row → ⊥) → (j ≡ 257 + 2 * count → ⊥) → get_or with_line j 0 ≡ get_or t j 0
  beside j m n = get_or-set_other with_row (257 + 2 * count) j i 0 n ∙ kept_other t row (count + 1) j m

  first_at : (j : ℕ) → j ≡ count → defines (line L (get_or with_line (257 + 2 * j) 0)) ≡ Some (get_or (defined_families L) j [])
  first_at j e = rw (e, get_or-set_same with_row (257 + 2 * count) i 0 (rw (length_kept t row (count + 1)) (omega arith))) (defines_f ∙ ap Some (sym at_count))

  row_at : (j : ℕ) → j < 8 → (b : Bool) → eqb row j ≡ b → get_or with_row (248 + j) 0 ≡ place (take (suc count) (defined_families L)) (row_name j)
  row_at j l true e =
      let z : row ≡ j = eqb-true row j e in
      let named : f ≡ row_name j = ≟_true f (row_name j) (row_is j l ∙ e) in
      rw (← z) (kept_same t row (count + 1) (omega arith) (omega arith))
      ∙ add-one count ∙ sym (place_taken L (suc count) inside (row_name j) count (omega arith) (at_count ∙ named))
  row_at j l false e =
      kept_other t row (count + 1) (248 + j) (λ h q. clash (eq-eqb row j (omega arith)) e) ∙ T.rows j l
      ∙ sym (place_more (defined_families L) (row_name j) count (rw at_count (row_is j l ∙ e)))

  line_set : Linked L (suc count) count with_line
  line_set = record {
    size = inside;
    heads = λ g l. rw (beside 247 (λ h q. omega arith) (λ q. omega arith), beside g (λ h q. omega arith) (λ q. omega arith)) (T.heads g l);
    rows = λ j l. get_or-set_other with_row (257 + 2 * count) (248 + j) i 0 (λ q. omega arith) ∙ row_at j l (eqb row j) refl;
    next = λ k l. rw (beside 247 (λ h q. omega arith) (λ q. omega arith), beside (256 + 2 * k) (λ h q. omega arith) (λ q. omega arith)) (T.next k l);
    first = λ k l. elim (eq_or_lt l) [ inl e ↦ first_at k e | inr m ↦ rw (beside (257 + 2 * k) (λ h q. omega arith) (λ e. omega arith)) (T.first k m) ];
  }

  pub table_added : (h : ℕ) → h < 247 → h ≡ hash (multiplier t) f → Table L (suc count) (added with_row count i h)
  unfolding added
  table_added h low is_hash = linked_more L (suc count) count with_line line_set h (rw (length-set, length_kept t row (count + 1)) room) (omega arith) low
      (rw (beside 247 (λ h q. omega arith) (λ q. omega arith), at_count) is_hash)

-- The chains emptied

module _ (L : List Line) (count k m : ℕ) (t : List ℕ) (T : Linked L count k t) where
  behind : (j : ℕ) → 248 ≤ j → get_or (emptied t m) j 0 ≡ get_or t j 0
  unfolding emptied
  behind j b =
      let at : j ≡ length (replicate {A = ℕ} 247 0) + (j - 247) = omega (arith, length-replicate {A = ℕ} 247 0) in
      let back : 247 + (j - 247) ≡ j = omega arith in
      get_or-set_other (replicate 247 0 ++ drop 247 t) 247 j m 0 (λ q. omega arith)
      ∙ ap (λ (i : ℕ). get_or (replicate 247 0 ++ drop 247 t) i 0) at ∙ get_or-append-add (replicate 247 0) (drop 247 t) (j - 247) 0 ∙ get_or-drop 247 t (j - 247) 0 ∙ ap (λ (i : ℕ). get_or t i 0) back

  front_empty : (g : ℕ) → g < 247 → get_or (emptied t m) g 0 ≡ 0
  unfolding emptied
  front_empty g b = get_or-set_other (replicate 247 0 ++ drop 247 t) 247 g m 0 (λ q. omega arith)
      ∙ get_or-append (replicate 247 0) (drop 247 t) 0 g (omega (arith, length-replicate {A = ℕ} 247 0)) ∙ replicate_default 247 g 0

  pub linked_none : Linked L count 0 (emptied t m)
  unfolding latest
  linked_none = record {
    size = T.size;
    heads = λ g l. front_empty g l;
    rows = λ i l. behind (248 + i) (omega arith) ∙ T.rows i l;
    next = λ j l. absurd (omega arith);
    first = λ j l. rw (behind (257 + 2 * j) (omega arith)) (T.first j l);
  }

-- `rehash`

module _ (L : List Line) (count : ℕ) where
  pub rehash_start : (m : ℕ) (t₀ t : List ℕ) → Table L count t₀ → t ≡ emptied t₀ m → Linked L count 0 t
  rehash_start m t₀ t T e = rw e (linked_none L count count m t₀ T)

  module _ (k : ℕ) (t : List ℕ) (T : Linked L count k t) where
    pub rehash_next : (h : ℕ) (t' : List ℕ) → 256 + 2 * count ≤ length t → k < count → h ≡ hash_of (multiplier t) (family (token (line L (get_or t (257 + 2 * k) 0)) 0).text) → h < 247
        → t' ≡ linked t k h → Linked L count (k + 1) t'
    rehash_next h t' room inside is_hash low e =
        rw (add-one, e) (linked_more L count k t T h room inside low (family_at L count k t T k (multiplier t) h inside is_hash))

    pub rehash_end : k ≤ count → count ≤ k → Table L count t
    rehash_end a b = let z : k ≡ count = omega arith in rw z at T

-- `place_register` and `place_line`

module _ (L : List Line) (i count : ℕ) (t : List ℕ) (R : Ready L i count t) where
  front : take count (defined_families L) ≡ families_before L i
  front = rw R.known (families_front L i R.above (omega (arith, R.inside)))

  nothing : defines (line L i) ≡ None → Placed L i count 0 t
  nothing n =
      let z : max count 0 ≡ count = omega arith in
      let same : families_before L (i + 1) ≡ families_before L i = families_next L i R.above ∙ ap (more (families_before L i)) n in
      record { place = rw n; families = z ∙ R.known ∙ sym (ap length same); table = rw z R.table; small = omega arith }

  module _ (r : Option Register) (e : of_register (line L i) r ≡ defines (line L i)) where
    abbrev found : Option Family
    found = family_of (token (line L i) 0).text r

    name : (o : Option Family) → found ≡ o → defines (line L i) ≡ option_map (λ (f : Family). f.name) o
    name o f = sym e ∙ ap (option_map (λ (f : Family). f.name)) f

    pub placed_other : (y : Bool) → ((s : List ℕ) → y ≡ is_some (family_of s r)) → y ≡ false → Placed L i count 0 t
    placed_other y g f = go found refl (sym (g (token (line L i) 0).text) ∙ f)
      where
        go : (o : Option Family) → found ≡ o → is_some o ≡ false → Placed L i count 0 t
        go None k n = nothing (name None k)
        go (Some x) k n = clash refl n

    module _ (c : ℕ) (m : c ≡ place_of (take count (defined_families L)) found) where
      pub placed_known : (c ≡ 0 → ⊥) → Placed L i count c t
      placed_known z = go found refl (m ∙ ap (λ (fs : List (List ℕ)). place_of fs found) front)
        where
          go : (o : Option Family) → found ≡ o → c ≡ place_of (families_before L i) o → Placed L i count c t
          go None k b = absurd (z b)
          go (Some x) k b = elim (place_cases (families_before L i) x.name) [
            | inl g ↦ absurd (z (b ∙ g.0))
            | inr g ↦ (
                let n = name (Some x) k in
                let v : max count c ≡ count = omega (arith, b, g.1, g.2, R.known) in
                let same : families_before L (i + 1) ≡ families_before L i = families_next L i R.above ∙ ap (more (families_before L i)) n
                ∙ ap (λ (b : Bool). cond b (families_before L i) (families_before L i ++ (x.name ∷ []))) g.4 in
                record {
                  place = rw n (b ∙ g.1 ∙ sym (place_here (defined_families L) x.name g.0 (unique_families L)
                      (omega (arith, g.2, families_size L i R.above (omega (arith, R.inside)))) (families_at L i R.above (omega (arith, R.inside)) g.0 g.2 ∙ g.3)));
                  families = v ∙ R.known ∙ sym (ap length same);
                  table = rw v R.table;
                  small = omega (arith, b, g.1, g.2, R.known, R.small);
                })
          ]

      pub placed_new : (y : Bool) → ((s : List ℕ) → y ≡ is_some (family_of s r)) → y ≡ true → c ≡ 0 → (t' : List ℕ) → Added (line L i) count i r t t'
          → Placed L i count (count + 1) t'
      placed_new y a b z t' A = go found refl (sym (a (token (line L i) 0).text) ∙ b) (sym z ∙ m ∙ ap (λ (fs : List (List ℕ)). place_of fs found) front) A.hash_is
        where
          go : (o : Option Family) → found ≡ o → is_some o ≡ true → 0 ≡ place_of (families_before L i) o → A.hash ≡ hash_of (multiplier t) o → Placed L i count (count + 1) t'
          go None k n b vh = clash n refl
          go (Some x) k n b vh = elim (place_cases (families_before L i) x.name) [
            | inr g ↦ absurd (omega (arith, b, g.1))
            | inl g ↦ (
                let n = name (Some x) k in
                let more_families : families_before L (i + 1) ≡ families_before L i ++ (x.name ∷ []) = families_next L i R.above ∙ ap (more (families_before L i)) n
                ∙ ap (λ (b : Bool). cond b (families_before L i) (families_before L i ++ (x.name ∷ []))) g.1 in
                let size : length (families_before L (i + 1)) ≡ suc count = ap length more_families ∙ length-append (families_before L i) (x.name ∷ []) ∙ omega (arith, R.known) in
                let at_count : get_or (defined_families L) count [] ≡ x.name =
                families_at L (i + 1) (omega arith) (omega (arith, R.inside)) count (omega (arith, size)) ∙ ap (λ (l : List (List ℕ)). get_or l count []) more_families
                ∙ ap (λ (k : ℕ). get_or (families_before L i ++ (x.name ∷ [])) k []) R.known ∙ get_or-append_seam (families_before L i) x.name [] [] in
                let inside : count < length (defined_families L) = omega (arith, size, families_size L (i + 1) (omega arith) (omega (arith, R.inside))) in
                let v : max count (count + 1) ≡ suc count = omega arith in
                record {
                  place = rw n (add-one count ∙ sym (place_here (defined_families L) x.name count (unique_families L) inside at_count));
                  families = v ∙ sym size;
                  table = rw (v, A.table) (table_added L count t R.table x.name i A.row (omega (arith, R.room, R.small, R.inside)) at_count inside n
                      (λ j l. sym (ap (named (◌≟ row_name j)) k) ∙ A.row_is j l) A.hash A.hash_low vh);
                  small = omega (arith, R.small);
                })
          ]

module _ (L : List Line) (i count c : ℕ) (t : List ℕ) (P : Placed L i count c t) (more : count < c) where
  greatest : max count c ≡ c
  greatest = omega arith

  pub placed_table : Table L c t
  placed_table = rw greatest at P.table

  pub placed_again : (t' : List ℕ) → Table L c t' → Placed L i count c t'
  placed_again t' T = record { place = P.place; families = P.families; table = rw greatest T; small = P.small }

-- `number_line` and `families`

module _ (l t x : List ℕ) (i count : ℕ) (table ds : List ℕ) (N : Numbered (listing l t x) i count table ds) where
  pub ready : i < length l → Ready (listing l t x) i count table
  ready h = record {
    above = N.above;
    inside = omega (arith, length_listing l t x);
    few = N.few;
    room = N.room;
    known = N.known;
    small = N.small;
    table = N.table;
  }

  pub defs_inside : i < length l → i < length ds
  defs_inside h = omega (arith, N.width, length_listing l t x)

  module _ (c : ℕ) (table' : List ℕ) (P : Placed (listing l t x) i count c table') where
    pub place_fits : i < length l → c < 65536
    place_fits h = omega (arith, P.small, N.few, length_listing l t x)

    pub numbered_next : i < length l → (m v : ℕ) → length table' ≡ length table → v ≡ c → m ≡ max count c → Numbered (listing l t x) (i + 1) m table' (set ds i v)
    unfolding defined_at
    numbered_next h m v same e q = record {
      above = omega arith;
      upto = omega (arith, length_listing l t x);
      few = N.few;
      room = omega (arith, N.room);
      width = rw length-set N.width;
      known = q ∙ P.families;
      small = omega (arith, N.small, P.small);
      table = rw q P.table;
      defs = λ j b. elim (eq_or_lt {j = j} {m = i} (omega arith)) [
        | inl z ↦ rw z (get_or-set_same ds i v 0 (omega (arith, N.width, length_listing l t x)) ∙ e ∙ P.place ∙ ap (place_defined (defined_families (listing l t x))) (sym (at_line i N.above)))
        | inr z ↦ get_or-set_other ds i j v 0 (λ q. omega arith) ∙ N.defs j z
      ];
    }
      where
        at_line : (i : ℕ) → 0 < i → defined_at (listing l t x) i ≡ defines (line (listing l t x) i)
        at_line zero b = absurd (omega arith)
        at_line (suc i) b = refl

  pub numbered_end : length l ≤ i → Numbered (listing l t x) (length l) count table ds
  numbered_end h = let z : i ≡ length l = omega (arith, N.upto, length_listing l t x) in rw z at N

pub numbered_start : (l t x table₀ zs ds : List ℕ) (m : ℕ) → 0 < length l → length l ≤ 1024 → 256 + 2 * length l ≤ length table₀ → length l ≤ length ds → zs ≡ zeroed 0 (take 256 table₀)
    → Numbered (listing l t x) 1 0 (set (zs ++ drop 256 table₀) 247 m) (set ds 0 0)
unfolding families_before range concat distinct latest defined_at place position
numbered_start l t x table₀ zs ds m a b c d z = record {
  above = omega arith;
  upto = omega (arith, length_listing l t x);
  few = omega (arith, length_listing l t x);
  room = rw (length-set, length-append zs (drop 256 table₀)) (omega (arith, zeros_length, length-drop 256 table₀, length_listing l t x));
  width = rw length-set (omega (arith, length_listing l t x));
  known = refl;
  small = omega arith;
  table = record {
    size = omega arith;
    heads = λ h l. zero_at h (omega arith) (λ q. omega arith);
    rows = λ i l. zero_at (248 + i) (omega arith) (λ q. omega arith);
    next = λ k l. absurd (omega arith);
    first = λ k l. absurd (omega arith);
  };
  defs = λ j h. let e : j ≡ 0 = omega arith in rw e (get_or-set_same ds 0 0 0 (omega arith));
}
  where
    zeros_length : length zs ≡ 256
    zeros_length = ap length z ∙ length-replicate {A = ℕ} (length (take 256 table₀) - 0) 0 ∙ omega (arith, length-take-le 256 table₀ (omega arith))

    zero_at : (j : ℕ) → j < 256 → (j ≡ 247 → ⊥) → get_or (set (zs ++ drop 256 table₀) 247 m) j 0 ≡ 0
    zero_at j h n = get_or-set_other (zs ++ drop 256 table₀) 247 j m 0 n ∙ get_or-append zs (drop 256 table₀) 0 j (omega (arith, zeros_length)) ∙ rw z (replicate_default (length (take 256 table₀) - 0) j 0)

-- `empty`

pub emptied_by : (t z : List ℕ) (m : ℕ) → z ≡ zeroed 0 (take 247 t) → 248 ≤ length t → set (z ++ drop 247 t) 247 m ≡ emptied t m
unfolding emptied
emptied_by t z m e room =
    let n : length (take 247 t) - 0 ≡ 247 = omega (arith, length-take-le 247 t (omega arith)) in
    rw (e, n)

-- `add` and `search_line`

module _ (t : List ℕ) (count h : ℕ) where
  pub linked_by : (a c : ℕ) → a ≡ get_or t h 0 → c ≡ count + 1 → set (set t (256 + 2 * count) a) h c ≡ linked t count h
  unfolding linked
  linked_by a c p r = rw (p, r)

  pub added_by : (i b : ℕ) (t' : List ℕ) → b ≡ i → t' ≡ linked (set t (257 + 2 * count) b) count h → t' ≡ added t count i h
  unfolding added
  added_by i b t' q e = rw q at e

module _ (t : List ℕ) (i c : ℕ) where
  pub kept_row : (v : ℕ) → i < 8 → v ≡ c → set t (248 + i) v ≡ kept t i c
  unfolding kept
  kept_row v h q = rw (lt-ltb i 8 h, q)

  pub kept_behind : 8 ≤ i → t ≡ kept t i c
  unfolding kept
  kept_behind h = rw (le-ltb i 8 h)

pub added_line : (l : Line) (count i h k : ℕ) (r : Option Register) (s t₀ t₁ t : List ℕ) → s ≡ (token l 0).text → h ≡ hash_of (multiplier t₀) (family_of s r) → h < 247
    → ((j : ℕ) → j < 8 → named (◌≟ row_name j) (family_of s r) ≡ eqb k j) → t₁ ≡ kept t₀ k (count + 1) → t ≡ added t₁ count i h → Added l count i r t₀ t
added_line l count i h k r s t₀ t₁ t w a b n c d = record {
  hash = h;
  hash_is = a ∙ ap (λ (s : List ℕ). hash_of (multiplier t₀) (family_of s r)) w;
  hash_low = b;
  row = k;
  row_is = rw w at n;
  table = rw c at d;
}

pub search_by : (fs : List (List ℕ)) (r : Option Register) (s x : List ℕ) (c : ℕ) → s ≡ x → c ≡ place_of fs (family_of s r) → c ≡ place_of fs (family_of x r)
search_by fs r s x c w e = rw w at e

pub ruleset rehash_rules = (rehash_start, rehash_next, rehash_end)

pub ruleset place_rules = (placed_other, placed_known, placed_new, placed_table, placed_again, emptied_by, linked_by, added_by, added_line, kept_row, kept_behind, search_by, ready, defs_inside, place_fits, numbered_next, numbered_end, numbered_start)
