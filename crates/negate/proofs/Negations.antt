-- The answer of `only_comparison` is right: the negation that it says is `negate_cond` of the condition.
--   map_same, one_changed  lists made of equal functions, and of functions that differ at one place
--   negation_only          one comparison, which is flipped
--   negation_count, negation_none    another number of comparisons, or none: `!(..)`
-- Assumes nothing.
use Rattle.std.specs.Prelude.{Option, None, Some}
use Rattle.std.specs.Option.{option_map}
use mathlib.Core.Path.{◌≡◌, refl, sym, ap, ap₂, ◌∙◌}
use mathlib.Core.Bool.{Bool, true, false, not, cond}
use mathlib.Core.List.{List, [], ◌∷◌, ◌++◌, map}
use Prim.Native.Nat.{ℕ, zero, suc, ◌+◌, ◌≤◌, ◌<◌}
use native.Mathlib.Nat.{add-zero, zero-add, sub-zero}
use native.Mathlib.Omega.{arith}
use borrow.Author.Tests.{eq-eqb, ne_eqb, leb-true}
use lib.Dec.{eqb, leb}
use lib.ListN.{length, get_or, take, drop, length-append}
use lib.Seq.{take-nil, drop-nil}
use Rattle.definitions.specs.Lists.{◌≟◌, find, range, all, on_first, on_part, starts_with, ascii}
use Rattle.definitions.specs.Model.{Token, Line, tok, no_token, Punct}
use Rattle.definitions.specs.Statements.{is_empty, merge}
use Rattle.definitions.specs.Condition.{Comparison, comparisons, Found, nothing_seen, scan, flip, only_comparison, negate_cond}
use Rattle.text.proofs.Texts.{≟_length}
use Rattle.loop_theory.proofs.Cases.{none_some}
use Rattle.loop_theory.proofs.Places.{on_part_one}
use Rattle.loop_theory.proofs.Comparisons.{comparison_in, comparison_stands, find_among}
use Rattle.negate.specs.Tests.{test, test_count, test_token, test_from, test_tokens}
use Rattle.append.specs.Adds.{whole}
use Rattle.negate.specs.Comparisons.{found_of, seen, negated_token, negation}
use Rattle.negate.specs.declared.comparison.Seen.{Seen as Counts}
use Rattle.negate.specs.declared.comparison.Found.{Found as Place}
use Rattle.negate.proofs.TestTokens.{test_is}
use Rattle.negate.proofs.Places.{moved, relabelled, kept_place, scan_kept, kept_change}

-- A text that is not empty

filled : (s : List ℕ) → 1 ≤ length s → not (s ≟ []) ≡ true
filled s h = ap not (≟_length s [] (λ e. omega arith))

nothing_starts : comparison_in [] ≡ None
unfolding find comparisons starts_with
nothing_starts = refl

-- The only comparison of the tokens that are not empty

module _ (U : List Token) where
  only_kept : only_comparison (scan 0 (whole U) nothing_seen) ≡ option_map (moved (kept_place U)) (only_comparison (scan 0 U nothing_seen))
  unfolding only_comparison relabelled
  only_kept = rw (scan_kept U) (go (eqb (scan 0 U nothing_seen).count 1))
    where
      go : (b : Bool) → cond b (option_map (moved (kept_place U)) (scan 0 U nothing_seen).found) None
          ≡ option_map (moved (kept_place U)) (cond b (scan 0 U nothing_seen).found None)
      go true = refl
      go false = refl

module _ (c : List Token) where
  when_some : (f : Found) → only_comparison (scan 0 c nothing_seen) ≡ Some f → negate_cond c ≡ on_part f.place (f.place + 1) (flip f) c
  unfolding negate_cond
  when_some f e = rw (e, negate_cond)

  when_none : only_comparison (scan 0 c nothing_seen) ≡ None → negate_cond c ≡ merge (tok (ascii "!(") Punct ∷ (c ++ (tok (ascii ")") Punct ∷ [])))
  unfolding negate_cond
  when_none e = rw (e, negate_cond)

-- The comparison that was found stands in a token that is not empty, and flipping does not empty it.

module _ (U : List Token) (f : Found) (e : only_comparison (scan 0 U nothing_seen) ≡ Some f) where
  abbrev place : Token
  place = get_or U f.place no_token

  stands : comparison_in (drop f.pos place.text) ≡ Some f.comparison
  stands = (comparison_stands U f e).there

  stands_in : not (is_empty place) ≡ true
  stands_in = go place.text stands
    where
      go : (s : List ℕ) → comparison_in (drop f.pos s) ≡ Some f.comparison → not (s ≟ []) ≡ true
      go [] q = none_some (sym nothing_starts ∙ ap comparison_in (sym (drop-nil f.pos)) ∙ q)
      go (b ∷ s) q = filled (b ∷ s) (omega arith)

  flipped_long : 1 ≤ length f.comparison.flipped
  unfolding all comparisons
  flipped_long = leb-true 1 (length f.comparison.flipped) (find_among (λ (c : Comparison). starts_with c.op (drop f.pos place.text)) (λ (c : Comparison). leb 1 (length c.flipped)) comparisons refl f.comparison stands)

  flipped_in : not (is_empty (flip f place)) ≡ true
  flipped_in =
      filled (flip f place).text (
      let s = place.text in
      let tail = drop (f.pos + length f.comparison.op) s in
      omega (arith, length-append (take f.pos s) (f.comparison.flipped ++ tail), length-append f.comparison.flipped tail, flipped_long)
      )

  -- the negation, by the place among all tokens
  negated_only : negate_cond (whole U) ≡ whole (on_part f.place (f.place + 1) (flip f) U)
  negated_only =
      when_some (whole U) (moved (kept_place U) f) (only_kept U ∙ ap (option_map (moved (kept_place U))) e)
      ∙ sym (kept_change (flip f) U f.place stands_in flipped_in)

negated_none : (U : List Token) → only_comparison (scan 0 U nothing_seen) ≡ None
    → negate_cond (whole U) ≡ merge (tok (ascii "!(") Punct ∷ (whole U ++ (tok (ascii ")") Punct ∷ [])))
negated_none U e = when_none (whole U) (only_kept U ∙ ap (option_map (moved (kept_place U))) e)

-- A change of the token at one place

pub map_same : {A B : Type 0} (f g : A → B) → ((a : A) → f a ≡ g a) → (xs : List A) → map f xs ≡ map g xs
map_same f g e [] = refl
map_same f g e (x ∷ xs) = ap₂ (λ (y : _) (ys : List _). y ∷ ys) (e x) (map_same f g e xs)

module _ {A : Type 0} (f : ℕ → A) (h : A → A) where
  abbrev changed : ℕ → ℕ → A
  changed p k = cond (eqb k p) (h (f k)) (f k)

  unchanged : (p a n : ℕ) → p < a → map f (range a n) ≡ map (changed p) (range a n)
  unfolding range
  unchanged p a zero g = refl
  unchanged p a (suc n) g = rw (ne_eqb a p (λ e. omega arith)) (ap (λ (xs : List A). f a ∷ xs) (unchanged p (suc a) n (omega arith)))

  changed_at : (p a n : ℕ) → take p (map f (range a n)) ++ on_first h (drop p (map f (range a n))) ≡ map (changed (a + p)) (range a n)
  unfolding range on_first
  changed_at p a zero = rw (take-nil {A = A} p, drop-nil {A = A} p)
  changed_at zero a (suc n) =
      let here : h (f a) ∷ map f (range (suc a) n) ≡ map (changed a) (range a (suc n)) = rw (eq-eqb a a refl) (ap (λ (xs : List A). h (f a) ∷ xs) (unchanged a (suc a) n (omega arith))) in
      here ∙ ap (λ (k : ℕ). map (changed k) (range a (suc n))) (sym (add-zero a))
  changed_at (suc p) a (suc n) =
      let z : a + suc p ≡ suc a + p = omega arith in
      let there : f a ∷ (take p (map f (range (suc a) n)) ++ on_first h (drop p (map f (range (suc a) n)))) ≡ map (changed (suc a + p)) (range a (suc n)) = rw (ne_eqb a (suc a + p) (λ e. omega arith)) (ap (λ (xs : List A). f a ∷ xs) (changed_at p (suc a) n)) in
      there ∙ ap (λ (k : ℕ). map (changed k) (range a (suc n))) (sym z)

  pub one_changed : (p n : ℕ) → on_part p (p + 1) h (map f (range 0 n)) ≡ map (changed p) (range 0 n)
  one_changed p n = on_part_one h p (map f (range 0 n)) ∙ changed_at p 0 n ∙ ap (λ (k : ℕ). map (changed k) (range 0 n)) (zero-add p)

-- The answer

module _ (l : Line) (g m : ℕ) (n : Counts) (c : m ≡ test_count l g) (q : seen n ≡ scan 0 (test_tokens l m) nothing_seen) where
  condition_is : whole (test_tokens l m) ≡ test l g
  condition_is = rw c (test_is l g)

  nothing : only_comparison (seen n) ≡ None → negation l m None ≡ negate_cond (test l g)
  unfolding negation
  nothing e = sym (negated_none (test_tokens l m) (ap only_comparison (sym q) ∙ e)) ∙ ap negate_cond condition_is

  only : (f : Place) → n.count ≡ 1 → n.found ≡ Some f → negation l m (Some f) ≡ negate_cond (test l g)
  unfolding only_comparison negation negated_token test_from
  only f one is =
      let o : Found = found_of f in
      let e : only_comparison (scan 0 (test_tokens l m) nothing_seen) ≡ Some o = ap only_comparison (sym q) ∙ rw (eq-eqb n.count 1 one, is) in
      ap whole (sym (one_changed (test_token l m) (flip o) f.place m) ∙ ap (λ (k : ℕ). on_part f.place (f.place + 1) (flip o) (map (test_token l m) (range 0 k))) (sym (sub-zero m)))
      ∙ sym (negated_only (test_tokens l m) o e) ∙ ap negate_cond condition_is

  pub negation_one : n.count ≡ 1 → negation l (test_count l g) n.found ≡ negate_cond (test l g)
  unfolding only_comparison
  negation_one one = rw (← c) (go n.found refl)
    where
      go : (o : Option Place) → n.found ≡ o → negation l m o ≡ negate_cond (test l g)
      go (Some f) is = only f one is
      go None is = nothing (rw (eq-eqb n.count 1 one, is))

  pub negation_other : (n.count ≡ 1 → ⊥) → negation l (test_count l g) None ≡ negate_cond (test l g)
  unfolding only_comparison
  negation_other h = rw (← c) (nothing (rw (ne_eqb n.count 1 h)))
