-- Rules for the lines that read a family.
--   defined_none, defined_some        a line defines a family exactly if its word is not 0
--   reads_plain, reads_rest           `reads_at`
--   mark_yes, mark_no                 `mark_if`
--   seen_start, seen_room, seen_next, seen_end    the loop of `see_lines`
--   seen_line, list_start, list_next, list_end    the loop of `read_lines`
-- Assumes nothing.
use Rattle.std.specs.Prelude.{Option, None, Some}
use Prim.Native.Nat.{ℕ, zero, suc, ◌+◌, ◌-◌, ◌/◌, ◌%◌, ◌<◌, ◌≤◌}
use mathlib.Core.Path.{◌≡◌, refl, sym, ap, ◌∙◌}
use mathlib.Core.Logic.{◌⊎◌, inl, inr}
use mathlib.Core.Bool.{Bool, true, false, cond}
use mathlib.Core.List.{List, [], ◌∷◌, ◌++◌}
use native.Mathlib.Omega.{arith}
use lib.Dec.{eqb, ltb}
use borrow.Author.Tests.{eqb-true, eq-eqb, ne_eqb, lt-ltb, ltb-true}
use lib.ListN.{length, get_or, set, take, drop, length-drop}
use lib.Seq.{get_or-drop, get_or-set_same, get_or-set_other}
use Rattle.definitions.specs.Lists.{any, filter, range, is_some}
use Rattle.definitions.specs.Model.{Token, Line, no_token, line}
use Rattle.definitions.specs.Family.{names}
use Rattle.definitions.specs.Statements.{defines}
use Rattle.definitions.specs.Columns.{token_list, listing}
use Rattle.definitions.specs.Recover.{defined_families, read_tokens}
use Rattle.text.specs.Zeroed.{zeroed}
use Rattle.theory.proofs.Bools.{clash, same_test, or_left, or_right, or_cases, lt_or_ge}
use Rattle.theory.proofs.ListLaws.{replicate_default}
use Rattle.theory.proofs.Lines.{any_at}
use Rattle.model.specs.Places.{line_start}
use Rattle.model.proofs.Decode.{length_listing}
use Rattle.families.specs.Families.{place_defined, defined_at, Defs}
use Rattle.families.specs.Tokens.{family_name}
use Rattle.recover.specs.Reaching.{Put}
use Rattle.families.proofs.Lists.{range_snoc}
use Rattle.families.proofs.Numbered.{defined_known}
use Rattle.recover.proofs.SetRules.{filter_snoc}
use Rattle.chains.specs.Chains.{place_line, Bounds, Chain}
use Rattle.walks.specs.Lines.{reads, SeenTo, Seen}
use Rattle.chains.proofs.Places.{token_place, place_token, place_inside, place_line_is}
use Rattle.walks.proofs.Walk.{place_inside_lines, line_of_word, stands_head, stands_next, before_head, between, walk_shorter}

pub at_line : (L : List Line) (i : ℕ) → 0 < i → defined_at L i ≡ defines (line L i)
unfolding defined_at
at_line L zero h = absurd (omega arith)
at_line L (suc i) h = refl

module _ (L : List Line) (ds : List ℕ) (D : Defs L ds) (i : ℕ) (p : 0 < i) (h : i < length L) where
  word_is : get_or ds i 0 ≡ place_defined (defined_families L) (defines (line L i))
  word_is = D.at i h ∙ ap (place_defined (defined_families L)) (at_line L i p)

  pub defined_none : get_or ds i 0 ≡ 0 → is_some (defines (line L i)) ≡ false
  defined_none z = go (defines (line L i)) refl (sym word_is ∙ z)
    where
      go : (o : Option (List ℕ)) → defines (line L i) ≡ o → place_defined (defined_families L) o ≡ 0 → is_some o ≡ false
      go None e q = refl
      go (Some f) e q = absurd (defined_known L i p h f e q)

  pub defined_some : (get_or ds i 0 ≡ 0 → ⊥) → is_some (defines (line L i)) ≡ true
  defined_some z = go (defines (line L i)) (λ q. z (word_is ∙ q))
    where
      go : (o : Option (List ℕ)) → (place_defined (defined_families L) o ≡ 0 → ⊥) → is_some o ≡ true
      go None n = absurd (n refl)
      go (Some f) n = refl

-- `reads_at`

module _ (l ds : List ℕ) (i p v : ℕ) (e : v ≡ get_or ds i 0) where
  pub reads_plain : v ≡ 0 → true ≡ reads l ds i p
  unfolding reads
  reads_plain z = sym (rw (eq-eqb (get_or ds i 0) 0 (sym e ∙ z)))

  pub reads_rest : (v ≡ 0 → ⊥) → (s : ℕ) → s ≡ line_start l i → ltb s p ≡ reads l ds i p
  unfolding reads
  reads_rest z s q = sym (rw (ne_eqb (get_or ds i 0) 0 (λ r. z (e ∙ r)), q))

-- `mark_if`

module _ (y : Bool) (a b : List ℕ) where
  pub mark_yes : y ≡ true → a ≡ cond y a b
  mark_yes e = rw e

  pub mark_no : y ≡ false → b ≡ cond y a b
  mark_no e = rw e

-- A line that reads the family

any_place : (p : Token → Bool) (us : List Token) → any p us ≡ true → (j : ℕ) × (j < length us) × (p (get_or us j no_token) ≡ true)
unfolding any
any_place p [] e = clash e refl
any_place p (u ∷ us) e = elim (or_cases (p u) (any p us) e) [
  | inl q ↦ (0, omega arith, q)
  | inr q ↦ (let w = any_place p us q in (suc w.0, omega (arith, w.1), w.2))
]

module _ (l t x ds : List ℕ) (k : ℕ) (B : Bounds l t) (D : Defs (listing l t x) ds) (i : ℕ) (pos : 0 < i) (h : i < length l) where
  abbrev L : List Line
  L = listing l t x

  abbrev f : List ℕ
  f = family_name L k

  abbrev us : List Token
  us = (line L i).tokens

  inside : i < length L
  inside = omega (arith, length_listing l t x)

  -- token j of the line is read
  read_place : (j : ℕ) → reads l ds i (line_start l i + j) ≡ true → (get_or ds i 0 ≡ 0) ⊎ (0 < j)
  unfolding reads
  read_place j e = elim (or_cases (eqb (get_or ds i 0) 0) (ltb (line_start l i) (line_start l i + j)) e) [
    | inl q ↦ inl (eqb-true (get_or ds i 0) 0 q)
    | inr q ↦ inr (let b = ltb-true (line_start l i) (line_start l i + j) q in omega arith)
  ]

  read_here : (j : ℕ) → j < length us → names f (get_or us j no_token) ≡ true → (get_or ds i 0 ≡ 0) ⊎ (0 < j) → any (names f) (read_tokens (line L i)) ≡ true
  read_here j b n q = go (is_some (defines (line L i))) refl q
    where
      go : (c : Bool) → is_some (defines (line L i)) ≡ c → (get_or ds i 0 ≡ 0) ⊎ (0 < j) → any (names f) (cond c (drop 1 us) us) ≡ true
      go false s q = any_at (names f) us j b n
      go true s (inl z) = clash s (defined_none L ds D i pos inside z)
      go true s (inr m) =
          let z : 1 + (j - 1) ≡ j = omega arith in
          any_at (names f) (drop 1 us) (j - 1) (omega (arith, length-drop 1 us)) (rw (get_or-drop 1 us (j - 1) no_token, z) n)

  read_found : any (names f) (read_tokens (line L i)) ≡ true → (j : ℕ) × (j < length us) × (names f (get_or us j no_token) ≡ true) × (reads l ds i (line_start l i + j) ≡ true)
  unfolding reads
  read_found e = elim (lt_or_ge 0 (get_or ds i 0)) [
    | inl q ↦ (
        let w = any_place (names f) (drop 1 us) (rw (defined_some L ds D i pos inside (λ z. omega arith)) at e) in (
          1 + w.0,
          omega (arith, w.1, length-drop 1 us),
          rw (get_or-drop 1 us w.0 no_token) at w.2,
          or_right (eqb (get_or ds i 0) 0) _ (lt-ltb (line_start l i) (line_start l i + (1 + w.0)) (omega arith)),
        ))
    | inr q ↦ (
        let z : get_or ds i 0 ≡ 0 = omega arith in
        let w = any_place (names f) us (rw (defined_none L ds D i pos inside z) at e) in
        (w.0, w.1, w.2, or_left (eqb (get_or ds i 0) 0) _ (eq-eqb (get_or ds i 0) 0 z)))
  ]

  line_reads : (q : ℕ) → q < length t → place_line l q ≡ i → names f (get_or (token_list t x) q no_token) ≡ true → reads l ds i q ≡ true → any (names f) (read_tokens (line L i)) ≡ true
  line_reads q b e n r =
      let w = token_place l t x B.ok q b in
      go w.0 w.1 (sym (place_line_is l t x B.ok w.0 w.1 w.2 w.3) ∙ ap (place_line l) (sym w.4) ∙ e) w.3 w.4
    where
      go : (a j : ℕ) → a ≡ i → j < length (line L a).tokens → q ≡ line_start l a + j → any (names f) (read_tokens (line L i)) ≡ true
      go a j s hj z =
          let c : j < length us = rw s at hj in
          let y : q ≡ line_start l i + j = rw s at z in
          read_here j c (rw (place_token l t x B.ok i j h c, ← y) n) (read_place j (rw (← y) r))

-- `see_lines`

module _ (l t x ds : List ℕ) (k : ℕ) (ns first : List ℕ) (C : Chain l t x k ns first) where
  pub seen_start : (p : ℕ) → p ≡ get_or first k 0 → (seen₀ seen : List ℕ) → seen ≡ zeroed 0 seen₀ → SeenTo l t x ds k p seen
  seen_start p e seen₀ seen z = record {
    stands = stands_head l t x k ns first C p e;
    sound = λ i q. let o : get_or seen i 0 ≡ 0 = ap (λ (s : List ℕ). get_or s i 0) z ∙ replicate_default {A = ℕ} (length seen₀ - 0) i 0 in absurd (omega arith);
    whole = λ q a b n r. clash n (before_head l t x k ns first C p e q a);
  }

  module _ (p : ℕ) (seen : List ℕ) (S : SeenTo l t x ds k p seen) (h : p < length t) (room : length l ≤ length seen)
      (i : ℕ) (q : i ≡ get_or ns p 0 / 32768 % 65536) (y : Bool) (e : y ≡ reads l ds i p) (seen' : List ℕ) (m : seen' ≡ cond y (set seen i 1) seen) (v : ℕ) (w : v ≡ get_or ns p 0 % 32768) where
    line_is : i ≡ place_line l p
    line_is = line_of_word l t x k ns first C p S.stands h i q

    low : i < length seen
    low = omega (arith, line_is, place_inside_lines l t x C.bounds p h)

    grows : (a : ℕ) → get_or seen a 0 ≡ 1 → get_or seen' a 0 ≡ 1
    grows a o = ap (λ (s : List ℕ). get_or s a 0) m ∙ go y (lt_or_ge a i) (lt_or_ge i a)
      where
        go : (y : Bool) → (a < i) ⊎ (i ≤ a) → (i < a) ⊎ (a ≤ i) → get_or (cond y (set seen i 1) seen) a 0 ≡ 1
        go false b c = o
        go true (inl b) c = get_or-set_other seen i a 1 0 (λ z. omega arith) ∙ o
        go true (inr b) (inl c) = get_or-set_other seen i a 1 0 (λ z. omega arith) ∙ o
        go true (inr b) (inr c) = let z : a ≡ i = omega arith in rw z (get_or-set_same seen i 1 0 low)

    pub seen_next : SeenTo l t x ds k v seen'
    seen_next = record {
      stands = stands_next l t x k ns first C p S.stands h v w;
      sound = λ a o. sound a (ap (λ (s : List ℕ). get_or s a 0) (sym m) ∙ o);
      whole = λ q a b n r. elim (lt_or_ge q p) [
        | inl d ↦ grows (place_line l q) (S.whole q d b n r)
        | inr d ↦ elim (lt_or_ge p q) [
          | inl g ↦ clash n (between l t x k ns first C p S.stands h v w q g a)
          | inr g ↦ (let z : q ≡ p = omega arith in here (rw z at r) (sym (line_is ∙ ap (place_line l) (sym z))))
        ]
      ];
    }
      where
        here : reads l ds (place_line l p) p ≡ true → {b : ℕ} → b ≡ i → get_or seen' b 0 ≡ 1
        here r {b} z = rw z (ap (λ (s : List ℕ). get_or s i 0) (m ∙ ap (λ (y : Bool). cond y (set seen i 1) seen) (e ∙ ap (λ (i : ℕ). reads l ds i p) line_is ∙ r)) ∙ get_or-set_same seen i 1 0 low)

        sound : (a : ℕ) → get_or (cond y (set seen i 1) seen) a 0 ≡ 1
            → (q : ℕ) × (q < length t) × (place_line l q ≡ a) × (names (family_name (listing l t x) k) (get_or (token_list t x) q no_token) ≡ true) × (reads l ds a q ≡ true)
        sound a = go y refl (lt_or_ge a i) (lt_or_ge i a)
          where
            go : (c : Bool) → y ≡ c → (a < i) ⊎ (i ≤ a) → (i < a) ⊎ (a ≤ i) → get_or (cond c (set seen i 1) seen) a 0 ≡ 1
                → (q : ℕ) × (q < length t) × (place_line l q ≡ a) × (names (family_name (listing l t x) k) (get_or (token_list t x) q no_token) ≡ true) × (reads l ds a q ≡ true)
            go false c b d o = S.sound a o
            go true c (inl b) d o = S.sound a (sym (get_or-set_other seen i a 1 0 (λ z. omega arith)) ∙ o)
            go true c (inr b) (inl d) o = S.sound a (sym (get_or-set_other seen i a 1 0 (λ z. omega arith)) ∙ o)
            go true c (inr b) (inr d) o = let z : a ≡ i = omega arith in (p, h, sym (z ∙ line_is), S.stands.named h, rw z (sym e ∙ c))

  pub seen_room : (p : ℕ) (seen : List ℕ) → SeenTo l t x ds k p seen → p < length t → length l ≤ length seen → (i : ℕ) → i ≡ get_or ns p 0 / 32768 % 65536 → i < length seen
  seen_room p seen S h room i q = omega (arith, line_of_word l t x k ns first C p S.stands h i q, place_inside_lines l t x C.bounds p h)

  pub seen_end : Defs (listing l t x) ds → (p : ℕ) (seen : List ℕ) → SeenTo l t x ds k p seen → length t ≤ p → Seen l t x k seen
  seen_end D p seen S g = record {
    at = λ i pos h. same_test _ _
        (λ e. let w = S.sound i (eqb-true (get_or seen i 0) 1 e) in line_reads l t x ds k C.bounds D i pos h w.0 w.1 w.2 w.3 w.4)
        (λ e. let w = read_found l t x ds k C.bounds D i pos h e in
        let q = place_line_is l t x C.bounds.ok i w.0 h w.1 in
        let b = place_inside l t x C.bounds.ok i w.0 h w.1 in
        eq-eqb (get_or seen i 0) 1
        (rw q at (S.whole (line_start l i + w.0) (omega arith) b (rw (← (place_token l t x C.bounds.ok i w.0 h w.1)) w.2) (rw q w.3))));
  }

-- `read_lines`

unfoldable pub passing : (ℕ → Bool) → ℕ → List ℕ
passing p i = filter p (range 1 (i - 1))

pub list_start : (p : ℕ → Bool) (s : List ℕ) → take 0 s ≡ passing p 1
unfolding passing filter range
list_start p s = refl

module _ (p : ℕ → Bool) (s₀ : List ℕ) (m i : ℕ) (inv : take m s₀ ≡ passing p i) (above : 1 ≤ i) where
  pub list_next : (y : Bool) (s : List ℕ) (k : ℕ) → y ≡ p i → Put s₀ s m i y k → take k s ≡ passing p (i + 1)
  unfolding passing
  list_next y s k e P =
      let a : suc (i - 1) ≡ (i + 1) - 1 = omega arith in
      let b : 1 + (i - 1) ≡ i = omega arith in
      P.front ∙ ap (◌++ cond y (i ∷ []) []) inv
      ∙ ap (λ (c : Bool). filter p (range 1 (i - 1)) ++ cond c (i ∷ []) []) e
      ∙ sym (filter_snoc p (range 1 (i - 1)) i)
      ∙ ap (filter p) (ap (λ (z : ℕ). range 1 (i - 1) ++ (z ∷ [])) (sym b) ∙ sym (range_snoc 1 (i - 1)) ∙ ap (range 1) a)

  pub list_end : (l t x : List ℕ) → length l ≤ i → i ≤ length l → take m s₀ ≡ filter p (range 1 (length (listing l t x) - 1))
  unfolding passing
  list_end l t x h g = let z : i ≡ length (listing l t x) = omega (arith, length_listing l t x) in rw z at inv

-- the line i is read, as its byte says
pub seen_line : (l t x : List ℕ) (k : ℕ) (seen : List ℕ) → Seen l t x k seen → (i : ℕ) → 1 ≤ i → i < length l → (y : Bool) → y ≡ eqb (get_or seen i 0) 1
    → y ≡ any (names (family_name (listing l t x) k)) (read_tokens (line (listing l t x) i))
seen_line l t x k seen S i a h y e = e ∙ S.at i a h

pub ruleset seen_rules = (mark_yes, mark_no, seen_room, reads_plain, reads_rest, seen_start, seen_next, seen_end, seen_line, list_start, list_next, list_end, walk_shorter)
