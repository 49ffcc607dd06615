-- The comparison that `negate_cond` flips stands where the scan says.
--   find_passes, find_among    what `find` finds passes, and has what all elements have
--   Stands c f                 the comparison of f is the first of the list that stands at its place in the condition c
--   comparison_stands          the only comparison of a condition stands so
-- Assumes nothing.
use Rattle.std.specs.Prelude.{Option, Some}
use Prim.Native.Nat.{ℕ, zero, suc, ◌-◌}
use mathlib.Core.Path.{◌≡◌, refl, sym, ap, subst, ◌∙◌}
use mathlib.Core.Bool.{Bool, true, ◌&&◌, ◌||◌}
use mathlib.Core.List.{List, [], ◌∷◌}
use native.Mathlib.Nat.{add-zero}
use native.Mathlib.Numerals.{add-one}
use lib.Dec.{eqb}
use lib.ListN.{length, drop, get_or}
use lib.Seq.{drop-drop, get_or-drop}
use Rattle.definitions.specs.Lists.{all, find, count, starts_with, ascii}
use Rattle.definitions.specs.Model.{Token, no_token, Keyword, Punct}
use Rattle.definitions.specs.Condition.{Comparison, comparisons, Found, Seen, nothing_seen, at_depth_0, add_found, see_logical, comparison_at, see_bracket, scan_text, scan_token, scan, only_comparison}
use Rattle.loop_theory.proofs.Cases.{none_some, some_same, and_split, if_has, case_has, IfSome}

module _ {A : Type 0} (p : A → Bool) where
  pub find_passes : (xs : List A) → IfSome (λ x. p x ≡ true) (find p xs)
  unfolding find
  find_passes [] = λ x e. none_some e
  find_passes (y ∷ ys) = if_has (IfSome (λ x. p x ≡ true)) (p y) (λ h x e. ap p (sym (some_same e)) ∙ h) (λ _. find_passes ys)

  pub find_among : (q : A → Bool) (xs : List A) → all q xs ≡ true → IfSome (λ x. q x ≡ true) (find p xs)
  unfolding find all
  find_among q [] h = λ x e. none_some e
  find_among q (y ∷ ys) h =
      let s = and_split (q y) (all q ys) h in
      if_has (IfSome (λ x. q x ≡ true)) (p y) (λ _ x e. ap q (sym (some_same e)) ∙ s.0) (λ _. find_among q ys s.1)

abbrev pub comparison_in : List ℕ → Option Comparison
comparison_in s = find (λ c. starts_with c.op s) comparisons

pub record Stands (c : List Token) (f : Found) : Type 0 where
  pub there : comparison_in (drop f.pos (get_or c f.place no_token).text) ≡ Some f.comparison

-- Scanning

module _ {A : Type 0} where
  drop_next : (n : ℕ) (xs : List A) {y : A} {ys : List A} → drop n xs ≡ y ∷ ys → drop (suc n) xs ≡ ys
  drop_next n xs e = ap (λ k. drop k xs) (sym (add-one n)) ∙ (sym (drop-drop 1 n xs) ∙ ap (drop 1) e)

  drop_at_place : (d : A) (n : ℕ) (xs : List A) {y : A} {ys : List A} → drop n xs ≡ y ∷ ys → get_or xs n d ≡ y
  drop_at_place d n xs e = ap (λ k. get_or xs k d) (sym (add-zero n)) ∙ (sym (get_or-drop n xs 0 d) ∙ ap (λ zs. get_or zs 0 d) e)

module _ (Q : Found → Type 0) where
  abbrev Finds : Seen → Type 0
  Finds r = IfSome Q r.found

  logical_finds : (s : List ℕ) (r : Seen) → Finds r → Finds (see_logical s r)
  unfolding see_logical
  logical_finds s r h = if_has Finds (at_depth_0 r && (starts_with (ascii " && ") s || starts_with (ascii " || ") s)) (λ _. h) (λ _. h)

  bracket_finds : (c : ℕ) (r : Seen) → Finds r → Finds (see_bracket c r)
  unfolding see_bracket
  bracket_finds c r h = if_has Finds (eqb c 40) (λ _. h) (λ _. if_has Finds (eqb c 41) (λ _. h) (λ _. h))

  module _ (place : ℕ) (whole : List ℕ)
      (new : (pos : ℕ) (o : Comparison) → comparison_in (drop pos whole) ≡ Some o → Q (record { place = place; pos = pos; comparison = o })) where
    text_finds : (s : List ℕ) (pos skip : ℕ) (r : Seen) → drop pos whole ≡ s → Finds r → Finds (scan_text place pos skip s r)
    unfolding scan_text
    text_finds [] pos skip r e h = h
    text_finds (c ∷ s) pos (suc skip) r e h = text_finds s (suc pos) skip r (drop_next pos whole e) h
    text_finds (c ∷ s) pos zero r e h =
        let seen = see_logical (c ∷ s) r in
        let next = drop_next pos whole e in
        case_has Finds (comparison_at (c ∷ s) r)
        (text_finds s (suc pos) zero (see_bracket c seen) next (bracket_finds c seen (logical_finds (c ∷ s) r h))) λ o found.
        let here : comparison_in (c ∷ s) ≡ Some o =
        if_has (λ x. x ≡ Some o → comparison_in (c ∷ s) ≡ Some o) (at_depth_0 r) (λ _ q. q) (λ _ q. none_some q) found in
        text_finds s (suc pos) (length o.op - 1) (add_found (record { place = place; pos = pos; comparison = o }) seen) next
        (λ f q. subst Q (some_same q) (new pos o (ap comparison_in e ∙ here)))

-- the condition c from place on
scan_finds : (c ts : List Token) (place : ℕ) (r : Seen) → drop place c ≡ ts → Finds (Stands c) r → Finds (Stands c) (scan place ts r)
unfolding scan scan_token
scan_finds c [] place r e h = h
scan_finds c (t ∷ ts) place r e h =
    scan_finds c ts (suc place) (scan_token place t r) (drop_next place c e)
    (if_has (Finds (Stands c)) (eqb t.kind Punct) (λ _. text_finds (Stands c) place t.text here t.text 0 0 r refl h)
    (λ _. if_has (Finds (Stands c)) (eqb t.kind Keyword) (λ _. h) (λ _. h)))
  where
    here : (pos : ℕ) (o : Comparison) → comparison_in (drop pos t.text) ≡ Some o → Stands c (record { place = place; pos = pos; comparison = o })
    here pos o q = record { there = ap (λ (u : Token). comparison_in (drop pos u.text)) (drop_at_place no_token place c e) ∙ q }

pub comparison_stands : (c : List Token) → IfSome (Stands c) (only_comparison (scan 0 c nothing_seen))
unfolding only_comparison
comparison_stands c =
    if_has (IfSome (Stands c)) (eqb (scan 0 c nothing_seen).count 1)
    (λ _. scan_finds c c 0 nothing_seen refl (λ f q. none_some q)) (λ _ f q. none_some q)
