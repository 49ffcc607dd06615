-- Whether a family is rsp, and rules for whether an address is taken.
--   defines_plain               a family that a line defines is no `var_`
--   rsp_by                      `is_rsp`
--   place_test, rsp_is          the table's word for the row of rsp says whether a family is rsp
--   family_read                 a family that has a definition is read, but rsp
--   taken_some, taken_none      `address_taken`
--   takes_line, takes_first, takes_text      `takes_at`
--   taken_here, taken_found     a token that takes the address, and a line that does
--   untaken_start, untaken_next, untaken_found, untaken_end     the loop of `lines_take`
-- Assumes nothing.
use Rattle.std.specs.Prelude.{Option, None, Some}
use Rattle.std.proofs.lemmas.Option.{none-some, same_Some}
use Prim.Native.Nat.{ℕ, zero, suc, ◌+◌, ◌*◌, ◌-◌, ◌/◌, ◌%◌, ◌<◌, ◌≤◌}
use mathlib.Core.Path.{◌≡◌, refl, sym, ap, ◌∙◌}
use mathlib.Core.Logic.{inl, inr}
use mathlib.Core.Bool.{Bool, true, false, cond, ◌&&◌, not, and-true, and-false}
use mathlib.Core.List.{List, [], ◌∷◌}
use native.Mathlib.Omega.{arith}
use native.Mathlib.Numerals.{add-one}
use lib.Dec.{eqb, leb}
use borrow.Author.Tests.{eq-eqb, eqb-true, lt-ltb, le-ltb, ltb-true}
use lib.ListN.{length, get_or, take}
use lib.Seq.{get_or-take}
use Rattle.definitions.specs.Lists.{◌>>=◌, require, any, range, ◌≟◌, ends_with, ascii}
use Rattle.definitions.specs.Model.{Token, Line, no_token, token, line}
use Rattle.definitions.specs.Family.{Family, legacy, fam_of, names}
use Rattle.definitions.specs.Columns.{token_list, listing}
use Rattle.definitions.specs.Statements.{Assignment, assignment, defines, is_var}
use Rattle.definitions.specs.Recover.{defined_families, takes_address, address_taken, is_read_family}
use Rattle.theory.proofs.Bools.{and_both, and_split, or_left, or_right, or_cases, clash, same_test, not_so, lt_or_ge}
use Rattle.theory.proofs.ListLaws.{any_found, any_here, member_range, range_member, ≟_true, ≟_self}
use Rattle.model.specs.Places.{line_start}
use Rattle.model.proofs.Decode.{length_listing}
use Rattle.families.specs.Families.{place, Table}
use Rattle.families.specs.Tokens.{family_name}
use Rattle.families.proofs.Finding.{place_taken}
use Rattle.families.proofs.Numbered.{place_cases}
use Rattle.chains.specs.Chains.{place_line, Bounds, Chain}
use Rattle.walks.specs.Lines.{takes, Untaken}
use Rattle.chains.proofs.Places.{token_place, place_token, place_inside, place_line_is}
use Rattle.walks.proofs.Walk.{line_of_word, stands_head, stands_next, before_head, between, walk_shorter}

defines_plain : (l : Line) (f : List ℕ) → defines l ≡ Some f → is_var f ≡ false
unfolding defines
defines_plain l f e = go (assignment l) e
  where
    fits : Assignment → Family → Bool
    fits a x = leb 32 x.width && not (is_var x.name) && not (any (names x.name) a.expr)

    plain : (a : Assignment) (x : Family) → fits a x ≡ true → is_var x.name ≡ false
    plain a x q = not_so (is_var x.name) (λ v. clash (and_split (leb 32 x.width) (not (is_var x.name)) (and_split (leb 32 x.width && not (is_var x.name)) _ q).0).1 (ap not v))

    last : (a : Assignment) (x : Family) (b : Bool) → fits a x ≡ b → (require b >>= λ _. Some x.name) ≡ Some f → is_var f ≡ false
    last a x true q e = ap is_var (sym (same_Some _ _ e)) ∙ plain a x q
    last a x false q e = absurd (none-some _ e)

    with_family : (a : Assignment) (o : Option Family) → (o >>= λ x. require (fits a x) >>= λ _. Some x.name) ≡ Some f → is_var f ≡ false
    with_family a None e = absurd (none-some _ e)
    with_family a (Some x) e = last a x (fits a x) refl e

    go : (o : Option Assignment) → (o >>= λ a. fam_of a.lhs >>= λ x. require (fits a x) >>= λ _. Some x.name) ≡ Some f → is_var f ≡ false
    go None e = absurd (none-some _ e)
    go (Some a) e = with_family a (fam_of a.lhs) e

-- `is_rsp`

pub rsp_by : (t : List ℕ) (c k : ℕ) → c ≡ get_or t 255 0 → eqb c (k + 1) ≡ eqb (get_or t 255 0) (k + 1)
rsp_by t c k e = rw e

place_test : (L : List Line) (count k : ℕ) (f : List ℕ) → count ≤ length (defined_families L) → k < count
    → eqb (place (take count (defined_families L)) f) (k + 1) ≡ (family_name L k ≟ f)
place_test L count k f few h = same_test _ _ there back
  where
    there : eqb (place (take count (defined_families L)) f) (k + 1) ≡ true → (family_name L k ≟ f) ≡ true
    there e = elim (place_cases (take count (defined_families L)) f) [
      | inl g ↦ absurd (omega (arith, eqb-true _ (k + 1) e, g.0))
      | inr g ↦ (
          let z : g.0 ≡ k = omega (arith, eqb-true _ (k + 1) e, g.1) in
          rw (sym (get_or-take count (defined_families L) k [] h), ← z, g.3) (≟_self f))
    ]

    back : (family_name L k ≟ f) ≡ true → eqb (place (take count (defined_families L)) f) (k + 1) ≡ true
    back e = eq-eqb _ (k + 1) (place_taken L count few f k h (≟_true _ f e) ∙ sym (add-one k))

module _ (L : List Line) (count k : ℕ) (t : List ℕ) (T : Table L count t) (h : k < count) (y : Bool) (e : y ≡ eqb (get_or t 255 0) (k + 1)) where
  rsp_is : y ≡ (family_name L k ≟ ascii "rsp")
  unfolding legacy
  rsp_is = e ∙ ap (λ (c : ℕ). eqb c (k + 1)) (T.rows 7 (omega arith)) ∙ place_test L count k (ascii "rsp") T.size h

  -- a family that has a definition is read, but rsp
  pub family_read : is_read_family (family_name L k) ≡ not y
  family_read = rw (sym rsp_is, defines_plain (line L (get_or t (257 + 2 * k) 0)) (family_name L k) (T.first k h))

  taken_by : address_taken L (family_name L k) ≡ (not y && any (λ i. takes_address (family_name L k) (line L i).tokens) (range 1 (length L - 1)))
  taken_by = rw (sym rsp_is, defines_plain (line L (get_or t (257 + 2 * k) 0)) (family_name L k) (T.first k h))

  pub taken_some : (z : Bool) → z ≡ any (λ i. takes_address (family_name L k) (line L i).tokens) (range 1 (length L - 1)) → z ≡ true → not y ≡ address_taken L (family_name L k)
  taken_some z s q = sym (taken_by ∙ rw (sym s, q) (and-true (not y)))

pub taken_none : (L : List Line) (count k : ℕ) (t : List ℕ) → Table L count t → k < count → (z : Bool)
    → z ≡ any (λ i. takes_address (family_name L k) (line L i).tokens) (range 1 (length L - 1)) → z ≡ false → false ≡ address_taken L (family_name L k)
taken_none L count k t T h z s q =
    let y = eqb (get_or t 255 0) (k + 1) in
    sym (taken_by L count k t T h y refl ∙ rw (sym s, q) (and-false (not y)))

-- `takes_at`

module _ (l : List ℕ) (ts : List Token) (i p : ℕ) where
  pub takes_line : i ≤ 0 → false ≡ takes l ts i p
  unfolding takes
  takes_line h = rw (le-ltb 0 i h)

  pub takes_first : (s : ℕ) → s ≡ line_start l i → 0 < i → p ≤ s → false ≡ takes l ts i p
  unfolding takes
  takes_first s e h g = rw (lt-ltb 0 i h, le-ltb (line_start l i) p (omega arith))

  pub takes_text : (s : ℕ) → s ≡ line_start l i → 0 < i → s < p → (w : List ℕ) (y : Bool) → w ≡ (get_or ts (p - 1) no_token).text → y ≡ ends_with (ascii "&") w → y ≡ takes l ts i p
  unfolding takes
  takes_text s e h g w y q z = rw (lt-ltb 0 i h, lt-ltb (line_start l i) p (omega arith), ← q) z

-- A line that takes the address

three : (a b c : Bool) → cond a (cond b c false) false ≡ true → (a ≡ true) × (b ≡ true) × (c ≡ true)
three true true c e = (refl, refl, e)
three true false c e = clash e refl
three false b c e = clash e refl

pair_found : (f : List ℕ) (us : List Token) → takes_address f us ≡ true
    → (j : ℕ) × (suc j < length us) × (ends_with (ascii "&") (get_or us j no_token).text ≡ true) × (names f (get_or us (suc j) no_token) ≡ true)
unfolding takes_address
pair_found f [] e = clash e refl
pair_found f (t ∷ []) e = clash e refl
pair_found f (t ∷ (u ∷ us)) e = elim (or_cases (ends_with (ascii "&") t.text && names f u) (takes_address f (u ∷ us)) e) [
  | inl q ↦ (let w = and_split (ends_with (ascii "&") t.text) (names f u) q in (0, omega arith, w.0, w.1))
  | inr q ↦ (let w = pair_found f (u ∷ us) q in (suc w.0, omega (arith, w.1), w.2, w.3))
]

pair_here : (f : List ℕ) (us : List Token) (j : ℕ) → suc j < length us → ends_with (ascii "&") (get_or us j no_token).text ≡ true → names f (get_or us (suc j) no_token) ≡ true → takes_address f us ≡ true
unfolding takes_address
pair_here f [] j h a b = absurd (omega arith)
pair_here f (t ∷ []) j h a b = absurd (omega arith)
pair_here f (t ∷ (u ∷ us)) zero h a b = or_left (ends_with (ascii "&") t.text && names f u) (takes_address f (u ∷ us)) (and_both a b)
pair_here f (t ∷ (u ∷ us)) (suc j) h a b = or_right (ends_with (ascii "&") t.text && names f u) (takes_address f (u ∷ us)) (pair_here f (u ∷ us) j (omega arith) a b)

module _ (l t x : List ℕ) (k : ℕ) (B : Bounds l t) where
  abbrev A : List Line
  A = listing l t x

  abbrev g : List ℕ
  g = family_name A k

  abbrev us : List Token
  us = token_list t x

  abbrev taken : Bool
  taken = any (λ i. takes_address g (line A i).tokens) (range 1 (length A - 1))

  takes_of : (i j : ℕ) → i < length l → j < length (line A i).tokens → takes l us (place_line l (line_start l i + j)) (line_start l i + j) ≡ true
      → (0 < i) × (0 < j) × (ends_with (ascii "&") (token (line A i) (j - 1)).text ≡ true)
  unfolding takes
  takes_of i j hi hj e =
      let q = rw (place_line_is l t x B.ok i j hi hj) at e in
      let w = three _ _ _ q in
      let a = ltb-true 0 i w.0 in
      let b = ltb-true (line_start l i) (line_start l i + j) w.1 in
      let z : (line_start l i + j) - 1 ≡ line_start l i + (j - 1) = omega arith in
      (a, omega arith, rw (place_token l t x B.ok i (j - 1) hi (omega arith), ← z) w.2)

  pub taken_here : (p : ℕ) → p < length t → names g (get_or us p no_token) ≡ true → takes l us (place_line l p) p ≡ true → taken ≡ true
  taken_here p h n e =
      let w = token_place l t x B.ok p h in
      let r = takes_of w.0 w.1 w.2 w.3 (rw w.4 at e) in
      let z : suc (w.1 - 1) ≡ w.1 = omega (arith, r.1) in
      any_here (λ i. takes_address g (line A i).tokens) (range 1 (length A - 1)) w.0
      (range_member w.0 1 (length A - 1) r.0 (omega (arith, w.2, length_listing l t x)))
      (pair_here g (line A w.0).tokens (w.1 - 1) (rw z w.3) r.2
      (rw (z, place_token l t x B.ok w.0 w.1 w.2 w.3, ← w.4) n))

  taken_found : taken ≡ true → (p : ℕ) × (p < length t) × (names g (get_or us p no_token) ≡ true) × (takes l us (place_line l p) p ≡ true)
  unfolding takes
  taken_found e =
      let r = any_found (λ i. takes_address g (line A i).tokens) (range 1 (length A - 1)) e in
      let m = member_range r.0 1 (length A - 1) r.1 in
      let w = pair_found g (line A r.0).tokens r.2 in
      let i = r.0 in
      let j = w.0 in
      let hi : i < length l = omega (arith, m.0, m.1, length_listing l t x) in
      let z : (line_start l i + suc j) - 1 ≡ line_start l i + j = omega arith in (
        line_start l i + suc j,
        place_inside l t x B.ok i (suc j) hi w.1,
        rw (← (place_token l t x B.ok i (suc j) hi w.1)) w.3,
        rw (
          place_line_is l t x B.ok i (suc j) hi w.1,
          lt-ltb 0 i m.0,
          lt-ltb (line_start l i) (line_start l i + suc j) (omega arith),
          z,
          ← (place_token l t x B.ok i j hi (omega (arith, w.1))),
        ) w.2,
      )

-- `lines_take`

module _ (l t x : List ℕ) (k : ℕ) (ns first : List ℕ) (C : Chain l t x k ns first) where
  pub untaken_start : (p : ℕ) → p ≡ get_or first k 0 → Untaken l t x k p
  untaken_start p e = record {
    stands = stands_head l t x k ns first C p e;
    none = λ q a b n. clash n (before_head l t x k ns first C p e q a);
  }

  module _ (p : ℕ) (U : Untaken l t x k p) (h : p < length t) (i : ℕ) (q : i ≡ get_or ns p 0 / 32768 % 65536) (y : Bool) (e : y ≡ takes l (token_list t x) i p) where
    here : y ≡ takes l (token_list t x) (place_line l p) p
    here = e ∙ ap (λ (i : ℕ). takes l (token_list t x) i p) (line_of_word l t x k ns first C p U.stands h i q)

    pub untaken_next : y ≡ false → (v : ℕ) → v ≡ get_or ns p 0 % 32768 → Untaken l t x k v
    untaken_next b v w = record {
      stands = stands_next l t x k ns first C p U.stands h v w;
      none = λ q a c n. elim (lt_or_ge q p) [
        | inl d ↦ U.none q d c n
        | inr d ↦ elim (lt_or_ge p q) [
          | inl m ↦ clash n (between l t x k ns first C p U.stands h v w q m a)
          | inr m ↦ (let z : q ≡ p = omega arith in rw z (sym here ∙ b))
        ]
      ];
    }

    pub untaken_found : y ≡ true → true ≡ any (λ i. takes_address (family_name (listing l t x) k) (line (listing l t x) i).tokens) (range 1 (length (listing l t x) - 1))
    untaken_found b = sym (taken_here l t x k C.bounds p h (U.stands.named h) (sym here ∙ b))

  pub untaken_end : (p : ℕ) → Untaken l t x k p → length t ≤ p → false ≡ any (λ i. takes_address (family_name (listing l t x) k) (line (listing l t x) i).tokens) (range 1 (length (listing l t x) - 1))
  untaken_end p U h = sym (not_so _ (λ e. let w = taken_found l t x k C.bounds e in clash w.3 (U.none w.0 (omega (arith, w.1)) w.1 w.2)))

pub ruleset taken_rules = (rsp_by, taken_some, taken_none, takes_line, takes_first, takes_text, untaken_start, untaken_next, untaken_found, untaken_end, walk_shorter)
