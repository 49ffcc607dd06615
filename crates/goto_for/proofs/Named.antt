-- Negating and merging a condition leaves the registers that it names, and makes no token empty.
--   names_other       a token that is no register names no family
--   any_merge         what holds of registers only holds of some token after merging if it did before
--   any_negated       so after negating
--   negated_filled    no token of a negated condition is empty
-- Assumes nothing.
use Rattle.std.specs.Prelude.{Option, None, Some}
use Prim.Native.Nat.{ℕ, zero, suc, ◌+◌, ◌-◌, ◌≤◌}
use mathlib.Core.Path.{◌≡◌, refl, sym, ap, subst, ◌∙◌}
use mathlib.Core.Bool.{Bool, true, false, cond, ◌&&◌, ◌||◌, not, or-false}
use mathlib.Core.List.{List, [], ◌∷◌, ◌++◌}
use native.Mathlib.Nat.{add-zero}
use native.Mathlib.Numerals.{add-one}
use native.Mathlib.Omega.{arith}
use borrow.Author.Tests.{eqb-true, leb-true}
use lib.Dec.{eqb, leb}
use lib.ListN.{length, get_or, take, drop, length-append, take-append-drop}
use lib.Seq.{drop-drop, get_or-drop}
use Rattle.definitions.specs.Lists.{any, all, on_first, on_part, starts_with, ◌≟◌, ascii}
use Rattle.definitions.specs.Model.{Token, tok, no_token, Punct, Text, Keyword, Register}
use Rattle.definitions.specs.Family.{Family, fam_of, names}
use Rattle.definitions.specs.Statements.{joins, glue, merge}
use Rattle.definitions.specs.Condition.{Comparison, comparisons, Found, Seen, nothing_seen, at_depth_0, add_found, see_logical, comparison_at, see_bracket, scan_text, scan_token, scan, flip, only_comparison, negate_cond}
use Rattle.text.proofs.Texts.{≟_length}
use Rattle.loop_theory.proofs.Cases.{true_false, none_some, some_same, and_split, if_has, case_has, IfSome}
use Rattle.loop_theory.proofs.Places.{on_part_one}
use Rattle.loop_theory.proofs.AnyAll.{all_cons, all_and, all_append, all_halves}
use Rattle.loop_theory.proofs.Comparisons.{Stands, comparison_stands, find_among}
use Rattle.family.specs.Register.{names_family}
use Rattle.goto_for.proofs.Merged.{joins_kind, filled, all_merge}

pub names_other : (o : Option Family) (t : Token) → eqb t.kind Register ≡ false → names_family o t ≡ false
unfolding names fam_of
names_other None t e = refl
names_other (Some f) t e = rw (e, names)

-- The comparison that is flipped stands in a punct token.

module _ (Q : ℕ → Type 0) where
  abbrev Finds : Seen → Type 0
  Finds r = IfSome (λ f. Q f.place) r.found

  logical_finds : (s : List ℕ) (r : Seen) → Finds r → Finds (see_logical s r)
  unfolding see_logical
  logical_finds s r h = if_has Finds (at_depth_0 r && (starts_with (ascii " && ") s || starts_with (ascii " || ") s)) (λ _. h) (λ _. h)

  bracket_finds : (c : ℕ) (r : Seen) → Finds r → Finds (see_bracket c r)
  unfolding see_bracket
  bracket_finds c r h = if_has Finds (eqb c 40) (λ _. h) (λ _. if_has Finds (eqb c 41) (λ _. h) (λ _. h))

  text_finds : (place : ℕ) → Q place → (s : List ℕ) (pos skip : ℕ) (r : Seen) → Finds r → Finds (scan_text place pos skip s r)
  unfolding scan_text
  text_finds place q [] pos skip r h = h
  text_finds place q (c ∷ s) pos (suc skip) r h = text_finds place q s (suc pos) skip r h
  text_finds place q (c ∷ s) pos zero r h =
      let seen = see_logical (c ∷ s) r in
      case_has Finds (comparison_at (c ∷ s) r)
      (text_finds place q s (suc pos) zero (see_bracket c seen) (bracket_finds c seen (logical_finds (c ∷ s) r h))) λ o found.
      text_finds place q s (suc pos) (length o.op - 1) (add_found (record { place = place; pos = pos; comparison = o }) seen)
      (λ f e. subst (λ (g : Found). Q g.place) (some_same e) q)

module _ (c : List Token) where
  abbrev is_punct : ℕ → Type 0
  is_punct k = eqb (get_or c k no_token).kind Punct ≡ true

  drop_next : (n : ℕ) {y : Token} {ys : List Token} → drop n c ≡ y ∷ ys → drop (suc n) c ≡ ys
  drop_next n e = ap (λ k. drop k c) (sym (add-one n)) ∙ (sym (drop-drop 1 n c) ∙ ap (drop 1) e)

  drop_at_place : (n : ℕ) {y : Token} {ys : List Token} → drop n c ≡ y ∷ ys → get_or c n no_token ≡ y
  drop_at_place n e = ap (λ k. get_or c k no_token) (sym (add-zero n)) ∙ (sym (get_or-drop n c 0 no_token) ∙ ap (λ zs. get_or zs 0 no_token) e)

  scan_finds : (ts : List Token) (place : ℕ) (r : Seen) → drop place c ≡ ts → Finds is_punct r → Finds is_punct (scan place ts r)
  unfolding scan scan_token
  scan_finds [] place r e h = h
  scan_finds (t ∷ ts) place r e h =
      scan_finds ts (suc place) (scan_token place t r) (drop_next place e)
      (if_has (Finds is_punct) (eqb t.kind Punct)
      (λ k. text_finds is_punct place (ap (λ (u : Token). eqb u.kind Punct) (drop_at_place place e) ∙ k) t.text 0 0 r h)
      (λ _. if_has (Finds is_punct) (eqb t.kind Keyword) (λ _. h) (λ _. h)))

  comparison_punct : IfSome (λ f. is_punct f.place) (only_comparison (scan 0 c nothing_seen))
  unfolding only_comparison
  comparison_punct =
      if_has (IfSome (λ f. is_punct f.place)) (eqb (scan 0 c nothing_seen).count 1)
      (λ _. scan_finds c 0 nothing_seen refl (λ f q. none_some q)) (λ _ f q. none_some q)

-- Registers

joins_other : (t u : Token) → joins t u ≡ true → eqb t.kind Register ≡ false
joins_other t u e = rw (joins_kind t u e) (go u.kind (and_split (eqb t.kind u.kind) (eqb u.kind Punct || eqb u.kind Text) e).1)
  where
    go : (k : ℕ) → (eqb k Punct || eqb k Text) ≡ true → eqb k Register ≡ false
    go k e = by (eqb k Register) refl
      where
        by : (b : Bool) → eqb k Register ≡ b → b ≡ false
        by true q = let z : k ≡ 1 = eqb-true k Register q in true_false {b = false} (sym (ap (λ j. eqb j Punct || eqb j Text) z) ∙ e) refl
        by false q = refl

module _ (p : Token → Bool) (own : (t : Token) → eqb t.kind Register ≡ false → p t ≡ false) where
  any_glue : (t : Token) (us : List Token) → any p (glue t us) ≡ (p t || any p us)
  unfolding any glue
  any_glue t [] = refl
  any_glue t (u ∷ us) = go (joins t u) refl
    where
      go : (b : Bool) → joins t u ≡ b → any p (cond b (tok (t.text ++ u.text) t.kind ∷ us) (t ∷ (u ∷ us))) ≡ (p t || (p u || any p us))
      go true e =
          let k = joins_other t u e in
          let m : eqb u.kind Register ≡ false = ap (λ j. eqb j Register) (sym (joins_kind t u e)) ∙ k in
          rw (own (tok (t.text ++ u.text) t.kind) k, own t k, own u m)
      go false e = refl

  pub any_merge : (ts : List Token) → any p (merge ts) ≡ any p ts
  unfolding any merge
  any_merge [] = refl
  any_merge (t ∷ ts) = any_glue t (merge ts) ∙ ap (λ b. p t || b) (any_merge ts)

  any_append : (xs ys : List Token) → any p (xs ++ ys) ≡ (any p xs || any p ys)
  unfolding any
  any_append [] ys = refl
  any_append (x ∷ xs) ys = rw (any_append xs ys) (go (p x))
    where
      go : (b : Bool) → (b || (any p xs || any p ys)) ≡ ((b || any p xs) || any p ys)
      go true = refl
      go false = refl

  any_first : (f : Token → Token) (ts : List Token) → ((t : Token) → (f t).kind ≡ t.kind) → eqb (get_or ts 0 no_token).kind Register ≡ false → any p (on_first f ts) ≡ any p ts
  unfolding any on_first
  any_first f [] k e = refl
  any_first f (t ∷ ts) k e = rw (own t e, own (f t) (ap (λ j. eqb j Register) (k t) ∙ e))

  flipped_same : (c : List Token) (f : Found) → is_punct c f.place → any p (on_part f.place (f.place + 1) (flip f) c) ≡ any p c
  flipped_same c f h =
      let k = f.place in
      let e : eqb (get_or (drop k c) 0 no_token).kind Register ≡ false =
      ap (λ (t : Token). eqb t.kind Register) (get_or-drop k c 0 no_token ∙ ap (λ j. get_or c j no_token) (add-zero k))
      ∙ ap (λ j. eqb j Register) (eqb-true (get_or c k no_token).kind Punct h) in
      ap (any p) (on_part_one (flip f) k c)
      ∙ (any_append (take k c) (on_first (flip f) (drop k c))
      ∙ (ap (λ b. any p (take k c) || b) (any_first (flip f) (drop k c) (λ t. refl) e)
      ∙ (sym (any_append (take k c) (drop k c)) ∙ ap (any p) (take-append-drop k c))))

  bracketed_same : (c : List Token) → any p (merge (tok (ascii "!(") Punct ∷ (c ++ (tok (ascii ")") Punct ∷ [])))) ≡ any p c
  unfolding any
  bracketed_same c =
      any_merge (tok (ascii "!(") Punct ∷ (c ++ (tok (ascii ")") Punct ∷ [])))
      ∙ rw (own (tok (ascii "!(") Punct) refl, any_append c (tok (ascii ")") Punct ∷ []), own (tok (ascii ")") Punct) refl) (or-false (any p c))

  pub any_negated : (c : List Token) → any p (negate_cond c) ≡ any p c
  unfolding negate_cond
  any_negated c = go (only_comparison (scan 0 c nothing_seen)) (comparison_punct c)
    where
      go : (o : Option Found) → IfSome (λ f. is_punct c f.place) o
          → any p (elim o [
            | Some f ↦ on_part f.place (f.place + 1) (flip f) c
            | None ↦ merge (tok (ascii "!(") Punct ∷ (c ++ (tok (ascii ")") Punct ∷ [])))
          ]) ≡ any p c
      go (Some f) h = flipped_same c f (h f refl)
      go None h = bracketed_same c

-- Empty tokens

flipped_filled : (c : List Token) (f : Found) → Stands c f → (t : Token) → filled (flip f t) ≡ true
unfolding all comparisons
flipped_filled c f h t =
    let s = drop f.pos (get_or c f.place no_token).text in
    let long : 1 ≤ length f.comparison.flipped =
    leb-true 1 (length f.comparison.flipped) (find_among (λ (o : Comparison). starts_with o.op s) (λ (o : Comparison). leb 1 (length o.flipped)) comparisons refl f.comparison h.there) in
    let tail = drop (f.pos + length f.comparison.op) t.text in
    let n : 1 ≤ length (flip f t).text =
    omega (arith, length-append (take f.pos t.text) (f.comparison.flipped ++ tail), length-append f.comparison.flipped tail) in
    ap not (≟_length (flip f t).text [] (λ e. omega arith))

first_filled : (f : Token → Token) → ((t : Token) → filled (f t) ≡ true) → (ts : List Token) → all filled ts ≡ true → all filled (on_first f ts) ≡ true
unfolding on_first
first_filled f h [] k = k
first_filled f h (t ∷ ts) k = all_and filled (f t) ts (h t) (all_cons filled t ts k).1

pub negated_filled : (c : List Token) → all filled c ≡ true → all filled (negate_cond c) ≡ true
unfolding negate_cond
negated_filled c h = go (only_comparison (scan 0 c nothing_seen)) (comparison_stands c)
  where
    go : (o : Option Found) → IfSome (Stands c) o
        → all filled (elim o [
          | Some f ↦ on_part f.place (f.place + 1) (flip f) c
          | None ↦ merge (tok (ascii "!(") Punct ∷ (c ++ (tok (ascii ")") Punct ∷ [])))
        ]) ≡ true
    go (Some f) s =
        let halves = all_halves filled f.place c h in
        rw on_part_one (all_append filled (take f.place c) _ halves.0 (first_filled (flip f) (flipped_filled c f (s f refl)) (drop f.place c) halves.1))
    go None s = all_merge (tok (ascii "!(") Punct ∷ (c ++ (tok (ascii ")") Punct ∷ []))) (bracketed_filled c h)
      where
        bracketed_filled : (c : List Token) → all filled c ≡ true → all filled (tok (ascii "!(") Punct ∷ (c ++ (tok (ascii ")") Punct ∷ []))) ≡ true
        bracketed_filled c h = unfold all ◌≟◌ in all_append filled c (tok (ascii ")") Punct ∷ []) h refl
