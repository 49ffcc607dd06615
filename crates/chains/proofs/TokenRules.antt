-- Rules for `tokens`.
--   link_by, token_none, token_zero, token_linked, family_room    `link` and `chain_token`
--   line_from, line_on, line_to           the loop of `chain_line`
--   heads_start, heads_next, heads_end    the loop of `no_heads`
--   chained_start, chained_next           the loop of `chain_tokens`
-- Assumes nothing.
use Rattle.std.specs.Prelude.{Option, None, Some}
use Prim.Native.Nat.{ℕ, zero, suc, ◌+◌, ◌-◌, ◌<◌, ◌≤◌}
use mathlib.Core.Path.{◌≡◌, refl, sym, ap, ◌∙◌}
use mathlib.Core.Logic.{◌⊎◌, inl, inr}
use mathlib.Core.List.{List}
use native.Mathlib.Omega.{arith}
use lib.Dec.{eqb}
use borrow.Author.Tests.{eq-eqb, ne_eqb}
use lib.ListN.{length, get_or, set, length-set}
use lib.Seq.{get_or-set_same, get_or-set_other}
use Rattle.definitions.specs.Model.{Token, Line, no_token}
use Rattle.definitions.specs.Family.{Family, fam_of, names}
use Rattle.definitions.specs.Columns.{token_list, listing}
use Rattle.definitions.specs.Recover.{defined_families}
use Rattle.definitions.specs.Answers.{no_family}
use Rattle.theory.proofs.Bools.{lt_or_ge}
use Rattle.model.specs.Places.{start_from, line_start, line_end}
use Rattle.model.proofs.Decode.{length_tokens, line_length}
use Rattle.model.proofs.Formed.{line_within}
use Rattle.families.specs.Families.{place, place_of}
use Rattle.families.specs.Tokens.{family_name, Finds}
use Rattle.families.proofs.Numbered.{place_cases}
use Rattle.memo.specs.Found.{found}
use Rattle.chains.specs.Chains.{next_place, place_line, chain_word, waiting, token_word, Bounds, Chained, Linked, Heads}
use Rattle.chains.proofs.NextPlace.{next_yes, next_no, next_end}
use Rattle.chains.proofs.Places.{line_next, last_start, place_line_is}
use Rattle.chains.proofs.FamilyPlaces.{place_most, names_place}

-- What was found

module _ (fs : List (List ℕ)) where
  found_none : (o : Option Family) → None ≡ found fs o → place_of fs o ≡ 0
  found_none None e = refl
  found_none (Some x) e = cc

  found_place : (c : ℕ) (o : Option Family) → Some c ≡ found fs o → c ≡ place_of fs o
  found_place c None e = cc
  found_place c (Some x) e = cc

-- `link` and `chain_token`

pub link_by : (i p c v w : ℕ) (ns first : List ℕ) → v ≡ chain_word i (get_or first (c - 1) 0) → w ≡ p → Linked i p c ns (set ns p v) first (set first (c - 1) w)
link_by i p c v w ns first e q = record { words = ap (set ns p) e; heads = ap (set first (c - 1)) q }

module _ (l t x table : List ℕ) (count p : ℕ) (ns first : List ℕ) (F : Finds (listing l t x) count table) (h : p < length t) (C : Chained l t x count (p + 1) ns first)
    (c : ℕ) (e : c ≡ place_of (defined_families (listing l t x)) (fam_of (get_or (token_list t x) p no_token))) where
  abbrev L : List Line
  L = listing l t x

  abbrev ts : List Token
  ts = token_list t x

  abbrev fs : List (List ℕ)
  fs = defined_families L

  abbrev u : Token
  u = get_or ts p no_token

  inside : p < length ts
  inside = omega (arith, length_tokens t x)

  named : (k : ℕ) → k < count → names (family_name L k) u ≡ eqb c (k + 1)
  named k b = sym (names_place L k (omega (arith, F.all)) u) ∙ ap (λ (m : ℕ). eqb m (k + 1)) (sym e)

  room : c ≤ length first
  room = omega (arith, C.room, F.all, e, most (fam_of u))
    where
      most : (o : Option Family) → place_of fs o ≤ length fs
      most None = omega arith
      most (Some y) = place_most fs y.name

  -- the words from p on, with v at p
  more_words : (v : ℕ) → v ≡ token_word l ts fs p → (q : ℕ) → p ≤ q → q < length t → get_or (set ns p v) q 0 ≡ token_word l ts fs q
  more_words v w q a b = elim (lt_or_ge p q) [
    | inl g ↦ get_or-set_other ns p q v 0 (λ z. omega arith) ∙ C.words q (omega arith) b
    | inr g ↦ (let z : q ≡ p = omega arith in rw z (get_or-set_same ns p v 0 (omega (arith, C.size)) ∙ w))
  ]

  kept_out : c ≡ 0 → (v : ℕ) → v ≡ token_word l ts fs p → Chained l t x count p (set ns p v) first
  kept_out z v w = record {
    size = simp length-set C.size;
    room = C.room;
    words = more_words v w;
    heads = λ k b. C.heads k b ∙ sym (next_no (family_name L k) ts p inside (named k b ∙ ne_eqb c (k + 1) (λ q. omega arith)));
  }

  module _ (n : c ≡ 0 → ⊥) (i : ℕ) (at : place_line l p ≡ i) (ns' first' : List ℕ) (K : Linked i p c ns ns' first first') where
    word_linked : chain_word i (get_or first (c - 1) 0) ≡ token_word l ts fs p
    unfolding token_word waiting
    word_linked = go (fam_of u) e
      where
        go : (o : Option Family) → c ≡ place_of fs o → chain_word i (get_or first (c - 1) 0) ≡ (elim o [ None ↦ no_family | Some y ↦ waiting l ts fs y.name p ])
        go None q = absurd (n q)
        go (Some y) q = elim (place_cases fs y.name) [
          | inl g ↦ absurd (n (q ∙ g.0))
          | inr g ↦ (let z : c - 1 ≡ g.0 = omega (arith, q, g.1) in
              rw (g.1, ne_eqb (suc g.0) 0 (λ z. omega arith), at, z)
              (ap (chain_word i) (C.heads g.0 (omega (arith, g.2, F.all)) ∙ ap (λ (f : List ℕ). next_place f ts (p + 1)) g.3)))
        ]

    put_first : Chained l t x count p ns' first'
    put_first = record {
      size = rw K.words (simp length-set C.size);
      room = rw K.heads (simp length-set C.room);
      words = λ q a b. rw K.words (more_words (chain_word i (get_or first (c - 1) 0)) word_linked q a b);
      heads = λ k b. rw K.heads (head k b (lt_or_ge k (c - 1)) (lt_or_ge (c - 1) k));
    }
      where
        other : (k : ℕ) → k < count → (k ≡ c - 1 → ⊥) → get_or (set first (c - 1) p) k 0 ≡ next_place (family_name L k) ts p
        other k b d = get_or-set_other first (c - 1) k p 0 d ∙ C.heads k b ∙ sym (next_no (family_name L k) ts p inside (named k b ∙ ne_eqb c (k + 1) (λ q. d (omega arith))))

        head : (k : ℕ) → k < count → (k < c - 1) ⊎ (c - 1 ≤ k) → (c - 1 < k) ⊎ (k ≤ c - 1) → get_or (set first (c - 1) p) k 0 ≡ next_place (family_name L k) ts p
        head k b (inl g) d = other k b (λ z. omega arith)
        head k b (inr g) (inl d) = other k b (λ z. omega arith)
        head k b (inr g) (inr d) =
            let z : k ≡ c - 1 = omega arith in
            ap (get_or (set first (c - 1) p) k) refl
            ∙ rw z (get_or-set_same first (c - 1) p 0 (omega (arith, room)))
            ∙ sym (next_yes (family_name L k) ts p inside (named k b ∙ eq-eqb c (k + 1) (nonzero c n z)))
          where
            nonzero : (c : ℕ) → (c ≡ 0 → ⊥) → k ≡ c - 1 → c ≡ k + 1
            nonzero zero m z = absurd (m refl)
            nonzero (suc c) m z = omega arith

module _ (l t x table : List ℕ) (count p : ℕ) (ns first : List ℕ) (F : Finds (listing l t x) count table) (h : p < length t) (C : Chained l t x count (p + 1) ns first)
    (f : Option ℕ) (e : f ≡ found (defined_families (listing l t x)) (fam_of (get_or (token_list t x) p no_token))) where
  abbrev families : List (List ℕ)
  families = defined_families (listing l t x)

  abbrev token : Token
  token = get_or (token_list t x) p no_token

  pub token_none : f ≡ None → Chained l t x count p (set ns p 4294967295) first
  unfolding token_word
  token_none z = kept_out l t x table count p ns first F h C 0 (sym (found_none families (fam_of token) (sym z ∙ e))) refl 4294967295 (go (fam_of token) (sym z ∙ e))
    where
      go : (o : Option Family) → None ≡ found families o → no_family ≡ (elim o [ None ↦ no_family | Some y ↦ waiting l (token_list t x) families y.name p ])
      go None q = refl
      go (Some y) q = cc

  module _ (c : ℕ) (z : f ≡ Some c) where
    at_place : c ≡ place_of families (fam_of token)
    at_place = found_place families c (fam_of token) (sym z ∙ e)

    pub token_zero : c ≡ 0 → Chained l t x count p (set ns p 0) first
    unfolding token_word waiting
    token_zero n = kept_out l t x table count p ns first F h C 0 (sym n ∙ at_place) refl 0 (go (fam_of token) (sym z ∙ e))
      where
        go : (o : Option Family) → Some c ≡ found families o → ◌≡◌ {A = ℕ} 0 (elim o [ None ↦ no_family | Some y ↦ waiting l (token_list t x) families y.name p ])
        go None q = cc
        go (Some y) q = let r : place families y.name ≡ 0 = sym (found_place families c (Some y) q) ∙ n in rw r

    pub family_room : c ≤ length first
    family_room = room l t x table count p ns first F h C c at_place

    pub token_linked : (c ≡ 0 → ⊥) → (i : ℕ) → place_line l p ≡ i → (ns' first' : List ℕ) → Linked i p c ns ns' first first' → Chained l t x count p ns' first'
    token_linked n i at ns' first' K = put_first l t x table count p ns first F h C c at_place n i at ns' first' K

-- `chain_line`

module _ (l t x : List ℕ) (count i : ℕ) (B : Bounds l t) (h : i < length l) (ns first : List ℕ) where
  end_is : line_end l t i ≡ line_start l (suc i)
  unfolding start_from
  end_is = omega (arith, line_within l t B.ok i h)

  pub line_from : (e : ℕ) → e ≡ line_end l t i → Chained l t x count (line_start l (suc i)) ns first → Chained l t x count e ns first
  line_from e q C = rw (q ∙ end_is) C

  pub line_on : (s p : ℕ) → s ≡ line_start l i → s < p → p ≤ line_end l t i → place_line l (p - 1) ≡ i
  line_on s p q a b =
      let z : line_start l i + ((p - 1) - line_start l i) ≡ p - 1 = omega arith in
      rw z at (place_line_is l t x B.ok i ((p - 1) - line_start l i) h (omega (arith, line_length l t x i)))

  pub line_to : (s p : ℕ) → s ≡ line_start l i → s ≤ p → p ≤ s → Chained l t x count p ns first → Chained l t x count (line_start l i) ns first
  line_to s p q a b C = let z : p ≡ line_start l i = omega arith in rw z at C

  pub line_rises : (s e : ℕ) → s ≡ line_start l i → e ≡ line_end l t i → s ≤ e
  line_rises s e q r = omega (arith, end_is, line_next l t x B.ok i h)

pub chained_below : (l t x : List ℕ) (count s p : ℕ) (ns first : List ℕ) → s < p → Chained l t x count p ns first → Chained l t x count ((p - 1) + 1) ns first
chained_below l t x count s p ns first h C = let z : (p - 1) + 1 ≡ p = omega arith in rw z C

-- `no_heads` and `chain_tokens`

module _ (a : ℕ) where
  pub heads_start : (first : List ℕ) → Heads a 0 first
  heads_start first = record { at = λ k h. absurd (omega arith) }

  module _ (n : ℕ) (first : List ℕ) (H : Heads a n first) where
    pub heads_next : (v : ℕ) → v ≡ a → n < length first → Heads a (n + 1) (set first n v)
    heads_next v e h = record {
      at = λ k b. elim (lt_or_ge k n) [
        | inl q ↦ get_or-set_other first n k v 0 (λ z. omega arith) ∙ H.at k q
        | inr q ↦ (let z : k ≡ n = omega arith in rw z (get_or-set_same first n v 0 h ∙ e))
      ];
    }

    pub heads_end : (m : ℕ) → length first ≡ m → length first ≤ n → Heads a m first
    heads_end m e h = record { at = λ k b. H.at k (omega arith) }

module _ (l t x : List ℕ) (count : ℕ) (B : Bounds l t) (ns first : List ℕ) where
  pub chained_start : (first₀ : List ℕ) → length first ≡ length first₀ → length ns ≡ length t → count ≤ length first₀ → Heads (length t) (length first₀) first
      → Chained l t x count (line_start l (length l)) ns first
  chained_start first₀ e q h H = rw (last_start l t x B.ok) (record {
    size = q;
    room = omega arith;
    words = λ p a b. absurd (omega arith);
    heads = λ k b. H.at k (omega arith) ∙ ap (λ (m : ℕ). m) (sym (length_tokens t x)) ∙ sym (next_end (family_name (listing l t x) k) (token_list t x)) ∙ ap (next_place (family_name (listing l t x) k) (token_list t x)) (length_tokens t x);
  })

  pub chained_next : (i : ℕ) → 0 < i → Chained l t x count (line_start l i) ns first → Chained l t x count (line_start l (suc (i - 1))) ns first
  chained_next i h C = let z : suc (i - 1) ≡ i = omega arith in rw z C

  pub chained_end : (i : ℕ) → i ≤ 0 → Chained l t x count (line_start l i) ns first → Chained l t x count 0 ns first
  unfolding start_from
  chained_end i h C = let z : i ≡ 0 = omega arith in rw z at C

pub ruleset token_rules = (link_by, line_from, line_on, line_to, line_rises, chained_below, heads_start, heads_next, heads_end, chained_start, chained_next, chained_end, family_room, token_none, token_zero, token_linked)
