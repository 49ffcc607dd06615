-- The numbers of definitions.
--   line_at n nums b                    the line of definition number b; n, which is no line, where no definition has the number
--   line_at_line                        of a number that is given it is `line_of`
--   line_at_entry, line_at_own          bit 0 is the entry; the bit of a defining line is its own
--   line_at_definition, line_at_none    numbers that are given, and that are not
--   definition_number                   every definition has a number
--   defines_yes, defines_no             a line defines exactly if it has a number
--   number_start, -yes, -no, -end       the loop of `number`
-- Assumes nothing.
use Prim.Native.Nat.{ℕ, zero, suc, ◌+◌, ◌-◌, ◌<◌, ◌≤◌}
use mathlib.Core.Path.{◌≡◌, refl, sym, ap, ◌∙◌}
use mathlib.Core.Logic.{◌⊎◌, inl, inr}
use mathlib.Core.Bool.{Bool, true, false, cond, not, and-false}
use mathlib.Core.List.{List, ◌∷◌}
use native.Mathlib.Omega.{arith}
use lib.Dec.{eqb}
use lib.ListN.{length, get_or, set, get_or-eq_default}
use lib.Seq.{get_or-set_same, get_or-set_other}
use borrow.Author.Tests.{eq-eqb, ne_eqb, eqb-true}
use Rattle.definitions.specs.Lists.{filter, range, member}
use Rattle.definitions.specs.Reaching.{is_definition}
use Rattle.theory.proofs.Bools.{decided, not_so, same_test, and_both, or_right, or_cases, lt_or_ge}
use Rattle.theory.proofs.ListLaws.{member_filter, filter_passes, member_range, range_member, count_all, length_range}
use Rattle.bits.proofs.EdgeLaws.{filter_like}
use Rattle.visit.specs.Numbers.{defining_lines, line_of, Numbered, lines_of, Numbering, Counted}
use Rattle.visit.proofs.ListFacts.{getD_inside, getD_member, member_place, part_low, part_rising, part_more, part_place}

abbrev pub line_at : ℕ → List ℕ → ℕ → ℕ
line_at n nums b = get_or (0 ∷ defining_lines n nums) b n

module _ (n : ℕ) (nums : List ℕ) where
  abbrev has : ℕ → Bool
  has i = not (eqb (get_or nums i 0) 0)

  pub line_at_line : (b : ℕ) → b ≤ length (defining_lines n nums) → line_at n nums b ≡ line_of n nums b
  line_at_line b h = getD_inside (0 ∷ defining_lines n nums) b n 0 (omega arith)

  pub defines_yes : (i : ℕ) → 0 < i → i < n → (get_or nums i 0 ≡ 0 → ⊥) → member i (defining_lines n nums) ≡ true
  defines_yes i p h e = member_filter has (range 1 (n - 1)) i ∙ and_both (range_member i 1 (n - 1) (omega arith) (omega arith)) (rw (ne_eqb (get_or nums i 0) 0 e))

  pub defines_no : (i : ℕ) → get_or nums i 0 ≡ 0 → member i (defining_lines n nums) ≡ false
  defines_no i e = member_filter has (range 1 (n - 1)) i ∙ rw e (and-false (member i (range 1 (n - 1))))

  -- a defining line is one of the lines from 1 on
  defines_inside : (i : ℕ) → member i (defining_lines n nums) ≡ true → (0 < i) × (i < n)
  defines_inside i m = let s = member_range i 1 (n - 1) (filter_passes has (range 1 (n - 1)) i m).0 in (omega (arith, s.0), omega (arith, s.0, s.1))

  pub line_at_entry : 0 < n → (b : ℕ) → eqb b 0 ≡ eqb (line_at n nums b) 0
  line_at_entry p zero = refl
  line_at_entry p (suc b) = ne_eqb (suc b) 0 (omega arith) ∙ sym (ne_eqb (line_at n nums (suc b)) 0 (λ e. elim (lt_or_ge b (length (defining_lines n nums))) [
    | inl q ↦ omega (arith, part_low has 1 (n - 1) b n q)
    | inr q ↦ omega (arith, get_or-eq_default (defining_lines n nums) n {n = b} q)
  ]))

  pub line_at_definition : (b : ℕ) → b ≤ length (defining_lines n nums) → is_definition (λ i. member i (defining_lines n nums)) (line_at n nums b) ≡ true
  line_at_definition zero h = refl
  line_at_definition (suc b) h =
      or_right (eqb (line_at n nums (suc b)) 0) (member (line_at n nums (suc b)) (defining_lines n nums)) (getD_member (defining_lines n nums) b n (omega arith))

  pub line_at_none : 0 < n → (b : ℕ) → length (defining_lines n nums) < b → is_definition (λ i. member i (defining_lines n nums)) (line_at n nums b) ≡ false
  line_at_none p b h = rw (get_or-eq_default (0 ∷ defining_lines n nums) n {n = b} (omega arith), ne_eqb n 0 (omega arith))
      (not_so (member n (defining_lines n nums)) (λ m. omega (arith, (defines_inside n m).1)))

  pub definition_number : (d : ℕ) → is_definition (λ i. member i (defining_lines n nums)) d ≡ true → (b : ℕ) × (b ≤ length (defining_lines n nums)) × (line_at n nums b ≡ d)
  definition_number d s = elim (or_cases (eqb d 0) (member d (defining_lines n nums)) s) [
    | inl q ↦ (0, omega arith, sym (eqb-true d 0 q))
    | inr q ↦ (let t = member_place d n (defining_lines n nums) q in (suc t.0, omega (arith, t.1), t.2))
  ]

  line_at_rising : (b v : ℕ) → b < v → v ≤ length (defining_lines n nums) → line_at n nums b < line_at n nums v
  line_at_rising b zero q h = absurd (omega arith)
  line_at_rising zero (suc v) q h = omega (arith, part_low has 1 (n - 1) v n (omega arith))
  line_at_rising (suc b) (suc v) q h = part_rising has 1 (n - 1) b v n (omega arith) (omega arith)

  pub line_at_own : (w : ℕ) → Numbered n w nums → (i : ℕ) → 0 < i → i < n → (get_or nums i 0 ≡ 0 → ⊥) → (b : ℕ) → eqb b (get_or nums i 0) ≡ eqb (line_at n nums b) i
  line_at_own w N i p h e b = same_test (eqb b v) (eqb (line_at n nums b) i)
      (λ q. eq-eqb (line_at n nums b) i (ap (line_at n nums) (eqb-true b v q) ∙ own))
      (λ q. eq-eqb b v (unique (eqb-true (line_at n nums b) i q)))
    where
      v : ℕ
      v = get_or nums i 0

      own : line_at n nums v ≡ i
      own = line_at_line v (N.number i p h e).0 ∙ (N.number i p h e).1

      unique : line_at n nums b ≡ i → b ≡ v
      unique q = elim (lt_or_ge (length (defining_lines n nums)) b) [
        | inl x ↦ absurd (omega (arith, q, get_or-eq_default (0 ∷ defining_lines n nums) n {n = b} (omega arith)))
        | inr x ↦ elim (lt_or_ge b v) [
          | inl y ↦ absurd (omega (arith, q, own, line_at_rising b v y (N.number i p h e).0))
          | inr y ↦ elim (lt_or_ge v b) [
            | inl z ↦ absurd (omega (arith, q, own, line_at_rising v b z x))
            | inr z ↦ omega arith
          ]
        ]
      ]

-- The loop of `number`

module _ (families : List ℕ) (f : ℕ) where
  abbrev is : ℕ → Bool
  is i = eqb (get_or families i 0) f

  pub number_start : (nums : List ℕ) → 0 < length nums → Numbering families f (set nums 0 0) 1 0
  unfolding filter range
  number_start nums h = record { entry = get_or-set_same nums 0 0 0 h; few = omega arith; count = refl; each = λ j p q. absurd (omega arith) }

  module _ (nums : List ℕ) (i c v d : ℕ) (N : Numbering families f nums i c) (p : 0 < i) (h : i < length nums)
      (ev : v ≡ cond (is i) (c + 1) 0) (ed : d ≡ cond (is i) (c + 1) c) where
    more : length (lines_of (i + 1) families f) ≡ cond (is i) (c + 1) c
    more =
        let a : i + 1 - 1 ≡ suc (i - 1) = omega arith in
        let b : 1 + (i - 1) ≡ i = omega arith in
        ap (λ (m : ℕ). length (filter is (range 1 m))) a ∙ part_more is 1 (i - 1)
        ∙ ap (λ (x : ℕ). cond (is x) (suc (length (lines_of i families f))) (length (lines_of i families f))) b ∙ rw (← N.count) (go (is i))
      where
        go : (b : Bool) → cond b (suc c) c ≡ cond b (c + 1) c
        go true = omega arith
        go false = refl

    number_next : Numbering families f (set nums i v) (i + 1) d
    number_next = record {
      entry = get_or-set_other nums i 0 v 0 (omega arith) ∙ N.entry;
      few = few (is i) ed;
      count = ed ∙ sym more;
      each = λ j x y. elim (lt_or_ge j i) [
        | inl q ↦ get_or-set_other nums i j v 0 (omega arith) ∙ N.each j x q
        | inr q ↦ (let e : j ≡ i = omega arith in rw (e, ← N.count) (get_or-set_same nums i v 0 h ∙ ev))
      ];
    }
      where
        few : (b : Bool) → d ≡ cond b (c + 1) c → d < i + 1
        few true e = omega (arith, N.few)
        few false e = omega (arith, N.few)

  module _ (nums : List ℕ) (i c : ℕ) (N : Numbering families f nums i c) (p : 0 < i) (h : i < length nums) where
    pub number_yes : (v : ℕ) → get_or families i 0 ≡ f → v ≡ c + 1 → Numbering families f (set nums i v) (i + 1) (c + 1)
    number_yes v e ev = number_next nums i c v (c + 1) N p h (ev ∙ sym (rw (eq-eqb (get_or families i 0) f e))) (sym (rw (eq-eqb (get_or families i 0) f e)))

    pub number_no : (get_or families i 0 ≡ f → ⊥) → Numbering families f (set nums i 0) (i + 1) c
    number_no e = number_next nums i c 0 c N p h (sym (rw (ne_eqb (get_or families i 0) f e))) (sym (rw (ne_eqb (get_or families i 0) f e)))

  pub number_end : (n : ℕ) (nums : List ℕ) (i c : ℕ) → Numbering families f nums i c → 0 < n → i ≤ n → n ≤ i → n ≤ length nums → Counted n families f nums c
  number_end n nums i c N p h g l = record {
    lines = same;
    count = count;
    below = omega (arith, count, count_all is (range 1 (n - 1)), length_range 1 (n - 1));
    numbered = λ w q. record {
      lengths = l;
      entry = N.entry;
      few = rw same (omega (arith, count));
      number = λ j x y e. rw same (number j x y e (decided (is j)));
    };
  }
    where
      at : i ≡ n
      at = omega arith

      count : c ≡ length (lines_of n families f)
      count = N.count ∙ ap (λ (m : ℕ). length (lines_of m families f)) at

      each : (j : ℕ) → 0 < j → j < n → get_or nums j 0 ≡ cond (is j) (length (lines_of j families f) + 1) 0
      each j x y = N.each j x (omega arith)

      has_is : (j : ℕ) (b : Bool) → get_or nums j 0 ≡ cond b (length (lines_of j families f) + 1) 0 → not (eqb (get_or nums j 0) 0) ≡ b
      has_is j true e = rw (ne_eqb (get_or nums j 0) 0 (λ q. omega arith))
      has_is j false e = rw e

      same : defining_lines n nums ≡ lines_of n families f
      same = filter_like (λ j. not (eqb (get_or nums j 0) 0)) is (range 1 (n - 1))
          (λ j m. let s = member_range j 1 (n - 1) m in has_is j (is j) (each j (omega (arith, s.0)) (omega (arith, s.0, s.1))))

      number : (j : ℕ) → 0 < j → j < n → (get_or nums j 0 ≡ 0 → ⊥) → (is j ≡ true) ⊎ (is j ≡ false)
          → (get_or nums j 0 ≤ length (lines_of n families f)) × (get_or (0 ∷ lines_of n families f) (get_or nums j 0) 0 ≡ j)
      number j x y e (inr q) = absurd (e (each j x y ∙ rw q))
      number j x y e (inl q) =
          let b : 1 + (j - 1) ≡ j = omega arith in
          let s = part_place is 1 (n - 1) (j - 1) 0 (omega arith) (rw b q) in
          let v : get_or nums j 0 ≡ suc (length (lines_of j families f)) = each j x y ∙ rw q (omega arith) in
          rw v (omega (arith, s.0), s.1 ∙ b)
