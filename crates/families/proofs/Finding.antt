-- Finding a family by its hash.
--   unique_families                no family is numbered twice
--   latest_le, latest_hash, latest_above    the chain of one hash: it falls, has that hash, and leaves out no family of that hash
--   Searching m fs count o c       the family o is at no place from c on, and the family at place c - 1 has its hash
--   searching_start, searching_next, searching_found, searching_end       rules for the loop of `search_chain`
--   place_taken, place_more                                               the place of a family among the first, and among one more
--   row_of, row_behind                                                    rules for `row_word`
--   found_row                                                             what stands for a row of the legacy names is its family's place
--   family_at                                                             the hash of a family by its first definition
--   last_inside, found_text                                               a register written as the first definition of the last family of its hash
-- Assumes nothing.
use Rattle.std.specs.Prelude.{Option, None, Some}
use Prim.Native.Nat.{ℕ, zero, suc, ◌+◌, ◌*◌, ◌-◌, ◌<◌, ◌≤◌}
use mathlib.Core.Path.{◌≡◌, refl, sym, ap, ◌∙◌}
use mathlib.Core.Logic.{inl, inr}
use mathlib.Core.Bool.{Bool, true, false, cond, not, false≢true}
use mathlib.Core.List.{List, [], ◌∷◌}
use native.Mathlib.Omega.{arith}
use lib.Dec.{eqb, ltb}
use borrow.Author.Tests.{eqb-true, eqb-false, lt-ltb, le-ltb, ltb-true}
use lib.ListN.{length, get_or, take, length-take}
use lib.Seq.{get_or-take, length-take-le}
use Rattle.definitions.specs.Lists.{filter, position, ◌≟◌}
use Rattle.definitions.specs.Model.{Token, Line, token, line}
use Rattle.definitions.specs.Family.{Family, family, fam_of, names}
use Rattle.definitions.specs.Statements.{defines}
use Rattle.definitions.specs.Recover.{distinct, defined_families}
use Rattle.theory.proofs.Bools.{not_so, lt_or_ge}
use Rattle.theory.proofs.ListLaws.{≟_true, ≟_self}
use Rattle.theory.proofs.Lines.{defines_first}
use Rattle.family.specs.declared.Register.{Register}
use Rattle.family.specs.declared.Register.TheVariants.{Legacy}
use Rattle.legacy.specs.Table.{row_name}
use Rattle.family.specs.Register.{family_of, names_family}
use Rattle.families.specs.Families.{hash, hash_of, latest, place, place_of, row_word, multiplier, Linked, Table}

-- Each family once

abbrev Unique : List (List ℕ) → Type 0
Unique fs = (j k : ℕ) → j < length fs → k < length fs → get_or fs j [] ≡ get_or fs k [] → j ≡ k

-- an element of a filtered list passes
filter_elements : (p : List ℕ → Bool) (fs : List (List ℕ)) (k : ℕ) → k < length (filter p fs) → p (get_or (filter p fs) k []) ≡ true
unfolding filter
filter_elements p [] k h = absurd (omega arith)
filter_elements p (f ∷ fs) k h = go (p f) refl (filter_elements p fs) k h
  where
    go : (b : Bool) → p f ≡ b → ((k : ℕ) → k < length (filter p fs) → p (get_or (filter p fs) k []) ≡ true) → (k : ℕ) → k < length (cond b (f ∷ filter p fs) (filter p fs)) → p (get_or (cond b (f ∷ filter p fs) (filter p fs)) k []) ≡ true
    go true e rest zero h = e
    go true e rest (suc k) h = rest k (omega arith)
    go false e rest k h = rest k h

filter_place : (p : List ℕ → Bool) (fs : List (List ℕ)) (k : ℕ) → k < length (filter p fs) → (m : ℕ) × (m < length fs) × (get_or (filter p fs) k [] ≡ get_or fs m [])
unfolding filter
filter_place p [] k h = absurd (omega arith)
filter_place p (g ∷ gs) k h = go (p g) (filter_place p gs) k h
  where
    go : (b : Bool) → ((k : ℕ) → k < length (filter p gs) → (m : ℕ) × (m < length gs) × (get_or (filter p gs) k [] ≡ get_or gs m []))
        → (k : ℕ) → k < length (cond b (g ∷ filter p gs) (filter p gs))
        → (m : ℕ) × (m < suc (length gs)) × (get_or (cond b (g ∷ filter p gs) (filter p gs)) k [] ≡ get_or (g ∷ gs) m [])
    go true rest zero h = (0, omega arith, refl)
    go true rest (suc k) h = let w = rest k (omega arith) in (suc w.0, omega (arith, w.1), w.2)
    go false rest k h = let w = rest k h in (suc w.0, omega (arith, w.1), w.2)

-- one more in front, that is not in the list
cons_unique : (f : List ℕ) (fs : List (List ℕ)) → Unique fs → ((k : ℕ) → k < length fs → f ≡ get_or fs k [] → ⊥) → Unique (f ∷ fs)
cons_unique f fs u a zero zero hj hk e = refl
cons_unique f fs u a zero (suc k) hj hk e = absurd (a k (omega arith) e)
cons_unique f fs u a (suc j) zero hj hk e = absurd (a j (omega arith) (sym e))
cons_unique f fs u a (suc j) (suc k) hj hk e = ap suc (u j k (omega arith) (omega arith) e)

filter_unique : (p : List ℕ → Bool) (fs : List (List ℕ)) → Unique fs → Unique (filter p fs)
unfolding filter
filter_unique p [] u = u
filter_unique p (f ∷ fs) u = go (p f) (filter_unique p fs (λ j k hj hk e. omega (arith, u (suc j) (suc k) (omega arith) (omega arith) e)))
  where
    apart : (k : ℕ) → k < length (filter p fs) → f ≡ get_or (filter p fs) k [] → ⊥
    apart k h e = let w = filter_place p fs k h in omega (arith, u 0 (suc w.0) (omega arith) (omega (arith, w.1)) (e ∙ w.2))

    go : (b : Bool) → Unique (filter p fs) → Unique (cond b (f ∷ filter p fs) (filter p fs))
    go false v = v
    go true v = cons_unique f (filter p fs) v apart

distinct_unique : (fs : List (List ℕ)) → Unique (distinct fs)
unfolding distinct
distinct_unique [] = λ j k hj hk e. absurd (omega arith)
distinct_unique (f ∷ fs) = cons_unique f rest (filter_unique (λ g. not (g ≟ f)) (distinct fs) (distinct_unique fs)) apart
  where
    rest : List (List ℕ)
    rest = filter (λ g. not (g ≟ f)) (distinct fs)

    apart : (k : ℕ) → k < length rest → f ≡ get_or rest k [] → ⊥
    apart k h e =
        let q : (get_or rest k [] ≟ f) ≡ true = ap (◌≟ f) (sym e) ∙ ≟_self f in
        false≢true (sym (ap not q) ∙ filter_elements (λ g. not (g ≟ f)) (distinct fs) k h)

pub unique_families : (L : List Line) → Unique (defined_families L)
unique_families L = distinct_unique _

-- The place of a family

position_here : (fs : List (List ℕ)) (f : List ℕ) (k : ℕ) → k < length fs → ((j : ℕ) → j < k → (get_or fs j [] ≟ f) ≡ false) → (get_or fs k [] ≟ f) ≡ true
    → position (λ g. g ≟ f) fs ≡ Some k
unfolding position
position_here [] f k h n e = absurd (omega arith)
position_here (g ∷ gs) f zero h n e = rw e
position_here (g ∷ gs) f (suc k) h n e = rw (n 0 (omega arith), position_here gs f k (omega arith) (λ j l. n (suc j) (omega arith)) e)

position_none : (fs : List (List ℕ)) (f : List ℕ) → ((j : ℕ) → j < length fs → (get_or fs j [] ≟ f) ≡ false) → position (λ g. g ≟ f) fs ≡ None
unfolding position
position_none [] f n = refl
position_none (g ∷ gs) f n = rw (n 0 (omega arith), position_none gs f (λ j l. n (suc j) (omega arith)))

place_at : Option ℕ → ℕ
place_at o = elim o [ None ↦ 0 | Some k ↦ suc k ]

pub place_here : (fs : List (List ℕ)) (f : List ℕ) (k : ℕ) → Unique fs → k < length fs → get_or fs k [] ≡ f → place fs f ≡ suc k
unfolding place place_at
place_here fs f k u h e =
    ap place_at (position_here fs f k h (λ j l. not_so _ (λ q. omega (arith, u j k (omega arith) h (≟_true _ f q ∙ sym e)))) (rw e (≟_self f)))

pub place_none : (fs : List (List ℕ)) (f : List ℕ) → ((j : ℕ) → j < length fs → (get_or fs j [] ≟ f) ≡ false) → place fs f ≡ 0
unfolding place place_at
place_none fs f n = ap place_at (position_none fs f n)

-- The chain of one hash

pub latest_le : (m : ℕ) (fs : List (List ℕ)) (h n : ℕ) → latest m fs h n ≤ n
unfolding latest
latest_le m fs h zero = omega arith
latest_le m fs h (suc n) = go (eqb (hash m (get_or fs n [])) h) (latest_le m fs h n)
  where
    go : (b : Bool) → latest m fs h n ≤ n → cond b (suc n) (latest m fs h n) ≤ suc n
    go true q = omega arith
    go false q = omega arith

latest_hash : (m : ℕ) (fs : List (List ℕ)) (h n k : ℕ) → latest m fs h n ≡ suc k → hash m (get_or fs k []) ≡ h
unfolding latest
latest_hash m fs h zero k e = absurd (omega arith)
latest_hash m fs h (suc n) k e = go (eqb (hash m (get_or fs n [])) h) refl (latest_hash m fs h n k) e
  where
    go : (b : Bool) → eqb (hash m (get_or fs n [])) h ≡ b → (latest m fs h n ≡ suc k → hash m (get_or fs k []) ≡ h) → cond b (suc n) (latest m fs h n) ≡ suc k → hash m (get_or fs k []) ≡ h
    go true q rest e = let z : n ≡ k = omega arith in rw z at (eqb-true (hash m (get_or fs n [])) h q)
    go false q rest e = rest e

latest_above : (m : ℕ) (fs : List (List ℕ)) (h n k : ℕ) → latest m fs h n ≤ k → k < n → hash m (get_or fs k []) ≡ h → ⊥
unfolding latest
latest_above m fs h zero k l g e = omega arith
latest_above m fs h (suc n) k l g e = go (eqb (hash m (get_or fs n [])) h) refl (λ l s. latest_above m fs h n k l s e) l
  where
    go : (b : Bool) → eqb (hash m (get_or fs n [])) h ≡ b → (latest m fs h n ≤ k → k < n → ⊥) → cond b (suc n) (latest m fs h n) ≤ k → ⊥
    go true q rest l = omega arith
    go false q rest l = elim (lt_or_ge k n) [
      | inl s ↦ rest l s
      | inr s ↦ eqb-false (hash m (get_or fs n [])) h q (let z : n ≡ k = omega arith in rw z e)
    ]

-- The search

abbrev matches : Option Family → List ℕ → Bool
matches None g = false
matches (Some f) g = g ≟ f.name

matches_hash : (m : ℕ) (o : Option Family) (g : List ℕ) → matches o g ≡ true → hash m g ≡ hash_of m o
matches_hash m None g e = absurd (false≢true e)
matches_hash m (Some f) g e = ap (hash m) (≟_true g f.name e)

names_matches : (o : Option Family) (l : Line) (g : List ℕ) → defines l ≡ Some g → names_family o (token l 0) ≡ matches o g
unfolding names
names_matches None l g e = refl
names_matches (Some f) l g e = let w = defines_first l g e in rw (w.1, names, w.2)

pub record Searching (m : ℕ) (fs : List (List ℕ)) (count : ℕ) (o : Option Family) (c : ℕ) : Type 0 where
  pub bound : c ≤ count
  pub above : (k : ℕ) → c ≤ k → k < count → matches o (get_or fs k []) ≡ false
  pub chain : (k : ℕ) → c ≡ suc k → hash m (get_or fs k []) ≡ hash_of m o

from_latest : (m : ℕ) (fs : List (List ℕ)) (count n : ℕ) (o : Option Family) → n ≤ count
    → ((k : ℕ) → n ≤ k → k < count → matches o (get_or fs k []) ≡ false) → Searching m fs count o (latest m fs (hash_of m o) n)
from_latest m fs count n o b a = record {
  bound = omega (arith, latest_le m fs (hash_of m o) n);
  above = λ k l h. elim (lt_or_ge k n) [
    | inl g ↦ not_so _ (λ e. latest_above m fs (hash_of m o) n k l g (matches_hash m o (get_or fs k []) e))
    | inr g ↦ a k g h
  ];
  chain = λ k e. latest_hash m fs (hash_of m o) n k e;
}

-- the place of a family among the first
pub place_taken : (L : List Line) (count : ℕ) → count ≤ length (defined_families L) → (f : List ℕ) (k : ℕ) → k < count → get_or (defined_families L) k [] ≡ f
    → place (take count (defined_families L)) f ≡ suc k
place_taken L count few f k h e = place_here (take count (defined_families L)) f k unique (omega (arith, size)) (here k h ∙ e)
  where
    size : length (take count (defined_families L)) ≡ count
    size = length-take-le count (defined_families L) few

    here : (k : ℕ) → k < count → get_or (take count (defined_families L)) k [] ≡ get_or (defined_families L) k []
    here k l = get_or-take count (defined_families L) k [] l

    unique : Unique (take count (defined_families L))
    unique j k hj hk e =
        let a : j < count = omega (arith, size) in
        let b : k < count = omega (arith, size) in
        unique_families L j k (omega arith) (omega arith) (sym (here j a) ∙ e ∙ here k b)

position_more : (fs : List (List ℕ)) (f : List ℕ) (k : ℕ) → (get_or fs k [] ≟ f) ≡ false
    → position (λ g. g ≟ f) (take (suc k) fs) ≡ position (λ g. g ≟ f) (take k fs)
unfolding position
position_more [] f zero e = refl
position_more [] f (suc k) e = refl
position_more (g ∷ gs) f zero e = rw e
position_more (g ∷ gs) f (suc k) e = rw (position_more gs f k e)

-- one more, that is another
pub place_more : (fs : List (List ℕ)) (f : List ℕ) (k : ℕ) → (get_or fs k [] ≟ f) ≡ false → place (take (suc k) fs) f ≡ place (take k fs) f
unfolding place place_at
place_more fs f k e = ap place_at (position_more fs f k e)

module _ (L : List Line) (count : ℕ) (t : List ℕ) (T : Table L count t) (o : Option Family) where
  pub searching_start : (c h : ℕ) → h ≡ hash_of (multiplier t) o → h < 247 → c ≡ get_or t h 0 → Searching (multiplier t) (defined_families L) count o c
  searching_start c h e l q =
      rw (q, T.heads h l, e) (from_latest (multiplier t) (defined_families L) count count o (omega arith) (λ k g s. absurd (omega arith)))

  module _ (c : ℕ) (s : Searching (multiplier t) (defined_families L) count o c) (p : 0 < c) where
    at : (y : Bool) → y ≡ names_family o (token (line L (get_or t (257 + 2 * (c - 1)) 0)) 0) → y ≡ matches o (get_or (defined_families L) (c - 1) [])
    at y q = q ∙ names_matches o _ _ (T.first (c - 1) (omega (arith, s.bound)))

    pub searching_found : (y : Bool) → y ≡ names_family o (token (line L (get_or t (257 + 2 * (c - 1)) 0)) 0) → y ≡ true
        → c ≡ place_of (take count (defined_families L)) o
    searching_found y q f = go o (sym (at y q) ∙ f)
      where
        go : (o : Option Family) → matches o (get_or (defined_families L) (c - 1) []) ≡ true → c ≡ place_of (take count (defined_families L)) o
        go None m = absurd (false≢true m)
        go (Some x) m = omega (arith, place_taken L count T.size x.name (c - 1) (omega (arith, s.bound)) (≟_true _ x.name m))

    pub searching_next : (y : Bool) (next : ℕ) → y ≡ names_family o (token (line L (get_or t (257 + 2 * (c - 1)) 0)) 0) → y ≡ false
        → next ≡ get_or t (256 + 2 * (c - 1)) 0 → Searching (multiplier t) (defined_families L) count o next
    searching_next y next q f r =
        rw (r, T.next (c - 1) (omega (arith, s.bound)), s.chain (c - 1) (omega arith))
        (from_latest (multiplier t) (defined_families L) count (c - 1) o (omega (arith, s.bound)) (λ k l h. elim (lt_or_ge k c) [
          | inl g ↦ (let z : c - 1 ≡ k = omega arith in rw z at (sym (at y q) ∙ f))
          | inr g ↦ s.above k g h
        ]))

    pub searching_less : (next : ℕ) → next ≡ get_or t (256 + 2 * (c - 1)) 0 → next < c
    searching_less next r = omega (arith, r, T.next (c - 1) (omega (arith, s.bound)), latest_le (multiplier t) (defined_families L) (hash (multiplier t) (get_or (defined_families L) (c - 1) [])) (c - 1))

  pub searching_end : (c : ℕ) → Searching (multiplier t) (defined_families L) count o c → c ≤ 0 → 0 ≡ place_of (take count (defined_families L)) o
  searching_end c s h = go o s
    where
      go : (o : Option Family) → Searching (multiplier t) (defined_families L) count o c → 0 ≡ place_of (take count (defined_families L)) o
      go None s = refl
      go (Some x) s = sym (place_none (take count (defined_families L)) x.name (λ j l.
          let b : j < count = omega (arith, length-take count (defined_families L)) in
          rw (get_or-take count (defined_families L) j [] b) (s.above j (omega arith) b)))

-- The row of a legacy name

module _ (t : List ℕ) (i : ℕ) where
  pub row_of : (c : ℕ) → i < 8 → c ≡ get_or t (248 + i) 0 → c ≡ row_word t i
  unfolding row_word
  row_of c h q = rw (lt-ltb i 8 h) q

  pub row_behind : 8 ≤ i → 0 ≡ row_word t i
  unfolding row_word
  row_behind h = rw (le-ltb i 8 h)

-- what is there for a row is the place of its family
pub found_row : (L : List Line) (count : ℕ) (t s : List ℕ) (r : Option Register) (i w c : ℕ) → Table L count t → r ≡ Some (Legacy i w) → c ≡ row_word t i
    → c ≡ place_of (take count (defined_families L)) (family_of s r)
unfolding row_word
found_row L count t s r i w c T e q = rw e (go (ltb i 8) refl q)
  where
    go : (b : Bool) → ltb i 8 ≡ b → c ≡ cond b (get_or t (248 + i) 0) 0
        → c ≡ place_of (take count (defined_families L)) (cond b (Some (record { name = row_name i; width = w })) None)
    go true f g = g ∙ T.rows i (ltb-true i 8 f)
    go false f g = g

-- The text of the first definition

family_some : (u : Token) (x : Family) → fam_of u ≡ Some x → family u.text ≡ Some x
unfolding fam_of
family_some u x e = go (eqb u.kind 1) e
  where
    go : (b : Bool) → cond b (family u.text) None ≡ Some x → family u.text ≡ Some x
    go true q = q
    go false q = cc

pub family_at : (L : List Line) (count n : ℕ) (t : List ℕ) → Linked L count n t → (k m h : ℕ) → k < count
    → h ≡ hash_of m (family (token (line L (get_or t (257 + 2 * k) 0)) 0).text) → h ≡ hash m (get_or (defined_families L) k [])
family_at L count n t T k m h b e =
    let l = line L (get_or t (257 + 2 * k) 0) in
    let w = defines_first l (get_or (defined_families L) k []) (T.first k b) in
    e ∙ ap (hash_of m) (family_some (token l 0) w.0 w.1) ∙ ap (hash m) w.2

module _ (L : List Line) (count : ℕ) (t s : List ℕ) (r : Option Register) (T : Table L count t) (answer : family_of s r ≡ family s)
    (c h : ℕ) (is_hash : h ≡ hash_of (multiplier t) (family_of s r)) (low : h < 247) (is_last : c ≡ get_or t h 0) where
  last_few : c ≤ count
  last_few = omega (arith, is_last, T.heads h low, latest_le (multiplier t) (defined_families L) h count)

  pub last_inside : 0 < c → count ≤ 1024 → c - 1 < 1024
  last_inside p few = omega (arith, last_few)

  pub found_text : 0 < c → (y : Bool) → y ≡ ((token (line L (get_or t (257 + 2 * (c - 1)) 0)) 0).text ≟ s) → y ≡ true
      → c ≡ place_of (take count (defined_families L)) (family_of s r)
  found_text p y e f =
      let l = line L (get_or t (257 + 2 * (c - 1)) 0) in
      let w = defines_first l (get_or (defined_families L) (c - 1) []) (T.first (c - 1) (omega (arith, last_few))) in
      let same : (token l 0).text ≡ s = ≟_true (token l 0).text s (sym e ∙ f) in
      let is : family_of s r ≡ Some w.0 = answer ∙ ap family (sym same) ∙ family_some (token l 0) w.0 w.1 in
      rw is (omega (arith, place_taken L count T.size w.0.name (c - 1) (omega (arith, last_few)) (sym w.2)))

pub ruleset row_rules = (last_inside, found_text, row_of, row_behind, found_row)

pub ruleset search_rules = (searching_start, searching_found, searching_next, searching_less, searching_end)
