-- One family done: from one state of the tokens to the next.
--   chain_by              the tokens of the next family are chained
--   numbers_next          the numbers, with one family more
--   marks_next            the marks, with one family more
--   marks_taken           a family whose address is taken has no mark
-- Assumes nothing.
use Rattle.std.specs.Prelude.{Option, None, Some}
use Prim.Native.Nat.{ℕ, ◌+◌, ◌<◌}
use mathlib.Core.Path.{◌≡◌, refl, sym, ap, ◌∙◌, fun_ext}
use mathlib.Core.Logic.{inr}
use mathlib.Core.Bool.{Bool, true, false, cond, ◌&&◌, and-false}
use mathlib.Core.List.{List}
use native.Mathlib.Omega.{arith}
use lib.Dec.{eqb}
use borrow.Author.Tests.{eq-eqb, ne_eqb, eqb-true, lt-leb}
use lib.ListN.{length, get_or}
use Rattle.definitions.specs.Lists.{any, up_to, ◌≟◌}
use Rattle.definitions.specs.Model.{Line, no_token, token, line}
use Rattle.definitions.specs.Family.{Family, fam_of, names}
use Rattle.definitions.specs.Columns.{token_list, listing}
use Rattle.definitions.specs.Recover.{Webs, defined_families, address_taken, key, is_def}
use Rattle.definitions.specs.Demand3.{defines_at}
use Rattle.definitions.specs.Answers.{no_family, per_token, mark}
use Rattle.theory.proofs.Bools.{clash, same_test}
use Rattle.theory.proofs.ListLaws.{≟_true, ≟_self}
use Rattle.theory.proofs.Tokens.{token_inside}
use Rattle.theory.proofs.Lines.{line_defines, defines_first}
use Rattle.model.specs.Places.{line_start}
use Rattle.model.proofs.Decode.{length_listing}
use Rattle.families.specs.Families.{place, Defs}
use Rattle.families.specs.Tokens.{family_name}
use Rattle.chains.specs.Chains.{next_place, place_line, chain_word, waiting, Bounds, Chain}
use Rattle.walks.specs.Lines.{own_place, Written, lines_marked}
use Rattle.chains.proofs.Places.{of_family, token_place, place_token, place_inside, place_line_is, per_token_at, per_token_length, per_token_by}
use Rattle.chains.proofs.FamilyPlaces.{place_is}
use Rattle.webs.specs.Progress.{webs_over, number_after, mark_after}
use Rattle.webs.proofs.Progress.{def_none, def_of, number_next, mark_next, mark_new}
use Rattle.webs.proofs.Marked.{marked_at, marked_length}
use Rattle.webs.proofs.Family.{defines_place}

module _ (l t x : List ℕ) (B : Bounds l t) (preds : List (List ℕ)) (k : ℕ) (h : k < length (defined_families (listing l t x))) where
  abbrev L : List Line
  L = listing l t x

  abbrev ws : List Webs
  ws = webs_over L preds

  abbrev f : List ℕ
  f = family_name L k

  abbrev numbers : ℕ → List ℕ
  numbers k = per_token no_family (number_after l t x ws k) L

  abbrev marks : ℕ → List ℕ
  marks k = per_token 0 (mark_after L ws k) L

  numbers_length : (ns : List ℕ) → ns ≡ numbers k → length ns ≡ length t
  numbers_length ns e = ap length e ∙ per_token_length l t x B.ok no_family (number_after l t x ws k)

  pub chain_by : (ns first : List ℕ) → ns ≡ numbers k → get_or first k 0 ≡ next_place f (token_list t x) 0 → Chain l t x k ns first
  unfolding names number_after waiting
  chain_by ns first e head = record {
    bounds = B;
    size = numbers_length ns e;
    head = head;
    words = λ p b n. at p n (token_place l t x B.ok p b);
  }
    where
      waits : (i j : ℕ) (o : Option Family) → (elim o [ None ↦ false | Some y ↦ y.name ≟ f ]) ≡ true
          → of_family no_family (number_after l t x ws k) o i j ≡ chain_word (place_line l (line_start l i + j)) (next_place f (token_list t x) (line_start l i + j + 1))
      waits i j None n = clash n refl
      waits i j (Some y) n =
          let z = eqb-true (place (defined_families L) f) (k + 1) (place_is L k h f ∙ ≟_self f) in
          rw (≟_true y.name f n, z, lt-leb (k + 1) k (omega arith), ne_eqb (k + 1) 0 (λ z. omega arith))

      at : (p : ℕ) → names f (get_or (token_list t x) p no_token) ≡ true → ((i : ℕ) × (j : ℕ) × (i < length l) × (j < length (line L i).tokens) × (p ≡ line_start l i + j))
          → get_or ns p 0 ≡ chain_word (place_line l p) (next_place f (token_list t x) (p + 1))
      at p n (i, j, b, c, z) =
          let m = rw (z, ← (place_token l t x B.ok i j b c)) at n in
          rw (z, e) (per_token_at l t x B.ok no_family (number_after l t x ws k) i j b c ∙ waits i j (fam_of (token (line L i) j)) m)

  module _ (ds own read : List ℕ) (D : Defs L ds) (keys : (i j : ℕ) → cond (defines_at L f i && eqb j 0) (get_or own i 0) (get_or read i 0) ≡ key ws f i j) where
    pub numbers_next : (ns₀ ns : List ℕ) → ns₀ ≡ numbers k → Written l t x k ds own read ns₀ ns → ns ≡ numbers (k + 1)
    unfolding names own_place
    numbers_next ns₀ ns e W = per_token_by l t x B.ok no_family (number_after l t x ws (k + 1)) ns W.size (λ i j b c.
        W.words (line_start l i + j) (place_inside l t x B.ok i j b c)
        ∙ rw (place_line_is l t x B.ok i j b c, ← (place_token l t x B.ok i j b c), e, per_token_at l t x B.ok no_family (number_after l t x ws k) i j b c)
        (ap (λ (v : ℕ). cond (names f (token (line L i) j)) v (of_family no_family (number_after l t x ws k) (fam_of (token (line L i) j)) i j)) (own_is i j b)
        ∙ go (fam_of (token (line L i) j)) i j))
      where
        first_is : (s j : ℕ) → eqb (s + j) s ≡ eqb j 0
        first_is s j = same_test _ _ (λ q. let z = eqb-true (s + j) s q in eq-eqb j 0 (omega arith)) (λ q. let z = eqb-true j 0 q in eq-eqb (s + j) s (omega arith))

        own_is : (i j : ℕ) → i < length l → cond (own_place l ds k i (line_start l i + j)) (get_or own i 0) (get_or read i 0) ≡ key ws f i j
        own_is i j b = rw (first_is (line_start l i) j, defines_place L ds D k h i (rw length_listing b)) (keys i j)

        pick : (g : List ℕ) (b : Bool) → (g ≟ f) ≡ b → (i j : ℕ) → cond b (key ws f i j) (number_after l t x ws k g i j) ≡ cond b (key ws g i j) (number_after l t x ws k g i j)
        pick g true e i j = ap (λ (f : List ℕ). key ws f i j) (sym (≟_true g f e))
        pick g false e i j = refl

        go : (o : Option Family) (i j : ℕ) → cond (elim o [ None ↦ false | Some y ↦ y.name ≟ f ]) (key ws f i j) (of_family no_family (number_after l t x ws k) o i j) ≡ of_family no_family (number_after l t x ws (k + 1)) o i j
        go None i j = refl
        go (Some y) i j = rw (number_next l t x preds k h y.name i j) (pick y.name (y.name ≟ f) refl i j)

  -- Marks

  pub marks_taken : address_taken L f ≡ true → (ms : List ℕ) → ms ≡ marks k → ms ≡ marks (k + 1)
  marks_taken a ms e = e ∙ ap (λ (g : List ℕ → ℕ → ℕ → ℕ). per_token 0 g L) (fun_ext (λ g. fun_ext (λ i. fun_ext (λ j. sym (mark_next l t x preds k h g i j ∙ go g i j (g ≟ f) refl)))))
    where
      go : (g : List ℕ) (i j : ℕ) (b : Bool) → (g ≟ f) ≡ b → cond b (mark (eqb j 0 && is_def ws g i)) (mark_after L ws k g i j) ≡ mark_after L ws k g i j
      go g i j true q =
          let z = ≟_true g f q in
          rw z (rw (def_none L preds f (inr a) i, and-false (eqb j 0)) (sym (mark_new l t x preds k h f i j (≟_self f))))
      go g i j false q = refl

  module _ (ds : List ℕ) (D : Defs L ds) (has : any (λ g. g ≟ f) (defined_families L) ≡ true) (free : address_taken L f ≡ false) where
    defined_token : (i : ℕ) → defines_at L f i ≡ true → (y : Family) × (fam_of (token (line L i) 0) ≡ Some y) × (y.name ≡ f)
    defined_token i e = defines_first (line L i) f (line_defines L f i e)

    full : (i : ℕ) → i < length l → eqb (get_or ds i 0) (k + 1) ≡ true → 0 < length (line L i).tokens
    full i b e = let y = defined_token i (sym (defines_place L ds D k h i (rw length_listing b)) ∙ e) in (token_inside L i 0 y.0 y.1).1

    pub marks_next : (ms₀ ms : List ℕ) → ms₀ ≡ marks k → ms ≡ lines_marked l k ds ms₀ (up_to (length l)) → ms ≡ marks (k + 1)
    marks_next ms₀ ms e q =
        q ∙ per_token_by l t x B.ok 0 (mark_after L ws (k + 1)) (lines_marked l k ds ms₀ (up_to (length l)))
        (marked_length l t x B.ok k ds ms₀ same full (length l)) (λ i j b c.
        marked_at l t x B.ok k ds ms₀ same full i j b c
        ∙ rw (e, per_token_at l t x B.ok 0 (mark_after L ws k) i j b c, defines_place L ds D k h i (rw length_listing b))
        (go i j (defines_at L f i) refl (eqb j 0) refl (fam_of (token (line L i) j)) refl))
      where
        same : length ms₀ ≡ length t
        same = ap length e ∙ per_token_length l t x B.ok 0 (mark_after L ws k)

        -- a token of any family that the line does not define here
        other : (i j : ℕ) → (eqb j 0 && defines_at L f i) ≡ false → (o : Option Family) → of_family 0 (mark_after L ws k) o i j ≡ of_family 0 (mark_after L ws (k + 1)) o i j
        other i j n None = refl
        other i j n (Some y) = sym (mark_next l t x preds k h y.name i j ∙ pick (y.name ≟ f) refl)
          where
            pick : (b : Bool) → (y.name ≟ f) ≡ b → cond b (mark (eqb j 0 && is_def ws y.name i)) (mark_after L ws k y.name i j) ≡ mark_after L ws k y.name i j
            pick true q =
                let z = ≟_true y.name f q in
                rw z (rw (def_of L preds f has free i, n) (sym (mark_new l t x preds k h f i j (≟_self f))))
            pick false q = refl

        go : (i j : ℕ) (d : Bool) → defines_at L f i ≡ d → (z : Bool) → eqb j 0 ≡ z → (o : Option Family) → fam_of (token (line L i) j) ≡ o
            → cond (d && z) 1 (of_family 0 (mark_after L ws k) o i j) ≡ of_family 0 (mark_after L ws (k + 1)) o i j
        go i j true e true q o s =
            let y = defined_token i e in
            let w : o ≡ Some y.0 = sym s ∙ ap (λ (m : ℕ). fam_of (token (line L i) m)) (eqb-true j 0 q) ∙ y.1 in
            rw w (sym (mark_next l t x preds k h y.0.name i j ∙ rw (y.2, ≟_self f, q, def_of L preds f has free i, e)))
        go i j true e false q o s = other i j (rw q) o
        go i j false e z q o s = other i j (rw (e, and-false (eqb j 0))) o
