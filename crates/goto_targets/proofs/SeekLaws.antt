-- The search for a goto's target, over runs of tokens.
--   target_is                    what the search finds in a line's tokens is the line's goto target
--   seek_append                  one run after the other
--   step_plain, seek_plain       punctuation and text change nothing
--   seek_merge                   so merging changes nothing
--   seek_negate, seek_one        nor does negating, and the condition 1 has no goto
--   seek_while, seek_for         a header: its initialiser, its condition and its step
--   popped_end, popped_jumped, popped_closed    a run whose last token has lost its last code point: a line's, a cut line's, a closing brace's
-- Assumes nothing.
use Rattle.std.specs.Prelude.{Option, None, Some}
use Rattle.std.specs.Option.{option_map}
use mathlib.Core.Path.{◌≡◌, refl, sym, ap, ◌∙◌}
use mathlib.Core.Bool.{Bool, true, false, cond, ◌&&◌, ◌||◌}
use mathlib.Core.List.{List, [], ◌∷◌, ◌++◌}
use Prim.Native.Nat.{ℕ, zero, suc, ◌+◌, ◌-◌}
use native.Mathlib.Nat.{add-zero, zero-add, add-suc, suc-add}
use native.Mathlib.Omega.{arith}
use borrow.Author.Tests.{eqb-true}
use lib.Dec.{eqb}
use lib.ListN.{length, get_or, take, drop}
use Rattle.definitions.specs.Lists.{◌>>=◌, position, find, on_first, on_last, starts_with, ◌≟◌, ascii}
use Rattle.definitions.specs.Model.{Token, Line, tok, no_token, Text, Keyword, Symbol, Punct}
use Rattle.definitions.specs.Statements.{is_kw, joins, glue, merge, first_symbol, goto_target}
use Rattle.definitions.specs.Condition.{Comparison, Found, Seen, nothing_seen, at_depth_0, add_found, see_logical, comparison_at, see_bracket, scan_text, scan_token, scan, flip, only_comparison, negate_cond}
use Rattle.definitions.specs.ToFor.{popped, pop, for_head}
use Rattle.definitions.specs.Passes.{while_head}
use Rattle.definitions.specs.RecoverGotoLoops.{one}
use Rattle.loop_theory.proofs.Cases.{none_some, some_same, and_split, if_has, case_has, IfSome}
use Rattle.loop_theory.proofs.Places.{on_part_one}
use Rattle.goto_targets.specs.Seek.{Seek, Seek.looking, Seek.waiting, Seek.found, step, seek, target}

-- What is found

found_stays : (s : List ℕ) (ts : List Token) → seek (found s) ts ≡ found s
unfolding seek step
found_stays s [] = refl
found_stays s (t ∷ ts) = found_stays s ts

behind : (ts : List Token) → target (seek waiting ts) ≡ first_symbol ts
unfolding seek step first_symbol find
behind [] = refl
behind (t ∷ ts) = go (eqb t.kind Symbol) (behind ts)
  where
    go : (b : Bool) → target (seek waiting ts) ≡ (find (λ (t : Token). eqb t.kind Symbol) ts >>= λ (t : Token). Some t.text)
        → target (seek (cond b (found t.text) waiting) ts) ≡ (cond b (Some t) (find (λ (t : Token). eqb t.kind Symbol) ts) >>= λ (t : Token). Some t.text)
    go true e = ap target (found_stays t.text ts)
    go false e = e

from_goto : (ts : List Token) → target (seek looking ts) ≡ (position (is_kw (ascii "goto")) ts >>= λ g. first_symbol (drop (g + 1) ts))
unfolding seek step position
from_goto [] = refl
from_goto (t ∷ ts) = go (is_kw (ascii "goto") t) (position (is_kw (ascii "goto")) ts) (from_goto ts)
  where
    go : (b : Bool) (o : Option ℕ) → target (seek looking ts) ≡ (o >>= λ g. first_symbol (drop (g + 1) ts))
        → target (seek (cond b waiting looking) ts) ≡ (cond b (Some 0) (option_map suc o) >>= λ g. first_symbol (drop (g + 1) (t ∷ ts)))
    go true o e = behind ts
    go false None e = e
    go false (Some k) e = e ∙ ap (λ n. first_symbol (drop n (t ∷ ts))) (sym (suc-add k 1))

pub target_is : (l : Line) → goto_target l ≡ target (seek looking l.tokens)
unfolding goto_target
target_is l = sym (from_goto l.tokens)

-- Runs

pub seek_append : (s : Seek) (ts us : List Token) → seek s (ts ++ us) ≡ seek (seek s ts) us
unfolding seek
seek_append s [] us = refl
seek_append s (t ∷ ts) us = seek_append (step s t) ts us

-- Punctuation and text

abbrev plain : ℕ → Bool
plain k = eqb k Punct || eqb k Text

not_plain : (k : ℕ) → plain k ≡ true → (eqb k Keyword ≡ false) × (eqb k Symbol ≡ false)
not_plain k e = go (eqb k Punct) refl e
  where
    go : (b : Bool) → eqb k Punct ≡ b → (b || eqb k Text) ≡ true → (eqb k Keyword ≡ false) × (eqb k Symbol ≡ false)
    go true q f = let z : k ≡ 6 = eqb-true k Punct q in rw z (refl, refl)
    go false q f = let z : k ≡ 0 = eqb-true k Text f in rw z (refl, refl)

step_plain : (s : Seek) (t : Token) → plain t.kind ≡ true → step s t ≡ s
unfolding step
step_plain looking t e = rw (not_plain t.kind e).0
step_plain waiting t e = rw (not_plain t.kind e).1
step_plain (found x) t e = refl

seek_plain : (s : Seek) (t : Token) (ts : List Token) → plain t.kind ≡ true → seek s (t ∷ ts) ≡ seek s ts
unfolding seek
seek_plain s t ts e = ap (λ r. seek r ts) (step_plain s t e)

seek_glue : (s : Seek) (t : Token) (us : List Token) → seek s (glue t us) ≡ seek (step s t) us
unfolding seek glue
seek_glue s t [] = refl
seek_glue s t (u ∷ us) = go (joins t u) refl
  where
    go : (b : Bool) → joins t u ≡ b → seek s (cond b (tok (t.text ++ u.text) t.kind ∷ us) (t ∷ (u ∷ us))) ≡ seek (step (step s t) u) us
    go false e = refl
    go true e =
        let r = and_split (eqb t.kind u.kind) (plain u.kind) e in
        let k : t.kind ≡ u.kind = eqb-true t.kind u.kind r.0 in
        let p : plain t.kind ≡ true = ap plain k ∙ r.1 in
        ap (λ x. seek x us) (step_plain s (tok (t.text ++ u.text) t.kind) p ∙ sym (step_plain (step s t) u r.1 ∙ step_plain s t p))

seek_merge : (s : Seek) (ts : List Token) → seek s (merge ts) ≡ seek s ts
unfolding seek merge
seek_merge s [] = refl
seek_merge s (t ∷ ts) = seek_glue s t (merge ts) ∙ seek_merge (step s t) ts

-- The comparison that is flipped stands in punctuation.

module _ (Q : Found → Type 0) where
  abbrev Finds : Seen → Type 0
  Finds r = IfSome Q r.found

  logical_finds : (s : List ℕ) (r : Seen) → Finds r → Finds (see_logical s r)
  unfolding see_logical
  logical_finds s r h = if_has Finds (at_depth_0 r && (starts_with (ascii " && ") s || starts_with (ascii " || ") s)) (λ _. h) (λ _. h)

  bracket_finds : (c : ℕ) (r : Seen) → Finds r → Finds (see_bracket c r)
  unfolding see_bracket
  bracket_finds c r h = if_has Finds (eqb c 40) (λ _. h) (λ _. if_has Finds (eqb c 41) (λ _. h) (λ _. h))

  text_finds : (place : ℕ) → ((pos : ℕ) (o : Comparison) → Q (record { place = place; pos = pos; comparison = o })) → (s : List ℕ) (pos skip : ℕ) (r : Seen)
      → Finds r → Finds (scan_text place pos skip s r)
  unfolding scan_text
  text_finds place new [] pos skip r h = h
  text_finds place new (c ∷ s) pos (suc skip) r h = text_finds place new s (suc pos) skip r h
  text_finds place new (c ∷ s) pos zero r h =
      let seen = see_logical (c ∷ s) r in
      case_has Finds (comparison_at (c ∷ s) r)
      (text_finds place new s (suc pos) zero (see_bracket c seen) (bracket_finds c seen (logical_finds (c ∷ s) r h)))
      (λ o e. text_finds place new s (suc pos) (length o.op - 1) (add_found (record { place = place; pos = pos; comparison = o }) seen) (λ f q. rw (← some_same q) (new pos o)))

-- the token of c that a comparison was found in is punctuation
abbrev InPunct : List Token → Found → Type 0
InPunct c f = eqb (get_or c f.place no_token).kind Punct ≡ true

-- the tokens ts are those of c from a place on
scan_finds : (c ts : List Token) (place : ℕ) (r : Seen) → ((j : ℕ) → get_or ts j no_token ≡ get_or c (place + j) no_token) → Finds (InPunct c) r
    → Finds (InPunct c) (scan place ts r)
unfolding scan scan_token
scan_finds c [] place r e h = h
scan_finds c (t ∷ ts) place r e h =
    scan_finds c ts (suc place) (scan_token place t r) (λ j. e (suc j) ∙ ap (λ k. get_or c k no_token) (add-suc place j ∙ sym (suc-add place j)))
    (if_has (Finds (InPunct c)) (eqb t.kind Punct) (λ q. text_finds (InPunct c) place (λ pos o. here q) t.text 0 0 r h)
    (λ _. if_has (Finds (InPunct c)) (eqb t.kind Keyword) (λ _. h) (λ _. h)))
  where
    here : eqb t.kind Punct ≡ true → eqb (get_or c place no_token).kind Punct ≡ true
    here q = ap (λ (u : Token). eqb u.kind Punct) (sym (e 0 ∙ ap (λ k. get_or c k no_token) (add-zero place))) ∙ q

only_in_punct : (c : List Token) → IfSome (InPunct c) (only_comparison (scan 0 c nothing_seen))
unfolding only_comparison
only_in_punct c =
    if_has (IfSome (InPunct c)) (eqb (scan 0 c nothing_seen).count 1)
    (λ _. scan_finds c c 0 nothing_seen (λ j. ap (λ k. get_or c k no_token) (sym (zero-add j))) (λ f q. none_some q)) (λ _ f q. none_some q)

-- Negating

module _ (g : Token → Token) (same : (t : Token) → (g t).kind ≡ t.kind) where
  seek_changed : (s : Seek) (p : ℕ) (c : List Token) → eqb (get_or c p no_token).kind Punct ≡ true → seek s (take p c ++ on_first g (drop p c)) ≡ seek s c
  unfolding seek on_first
  seek_changed s zero [] e = refl
  seek_changed s (suc p) [] e = refl
  seek_changed s zero (t ∷ c) e =
      let q : plain t.kind ≡ true = ap (λ b. b || eqb t.kind Text) e in
      ap (λ r. seek r c) (step_plain s (g t) (ap plain (same t) ∙ q) ∙ sym (step_plain s t q))
  seek_changed s (suc p) (t ∷ c) e = seek_changed (step s t) p c e

pub seek_negate : (s : Seek) (c : List Token) → seek s (negate_cond c) ≡ seek s c
unfolding negate_cond
seek_negate s c =
    case_has (λ ts. seek s ts ≡ seek s c) (only_comparison (scan 0 c nothing_seen))
    (seek_merge s (tok (ascii "!(") Punct ∷ (c ++ (tok (ascii ")") Punct ∷ [])))
    ∙ seek_plain s (tok (ascii "!(") Punct) (c ++ (tok (ascii ")") Punct ∷ [])) refl
    ∙ seek_append s c (tok (ascii ")") Punct ∷ []) ∙ seek_plain (seek s c) (tok (ascii ")") Punct) [] refl ∙ none_left (seek s c))
    (λ f e. ap (seek s) (on_part_one (flip f) f.place c) ∙ seek_changed (flip f) (λ t. refl) s f.place c (only_in_punct c f e))
  where
    none_left : (r : Seek) → seek r [] ≡ r
    none_left r = unfold seek in refl

pub seek_one : (s : Seek) → seek s one ≡ s
unfolding seek step
seek_one looking = refl
seek_one waiting = refl
seek_one (found x) = refl

-- Headers

abbrev word : List ℕ → Token
word w = tok w Keyword

step_word : (s : Seek) (w : List ℕ) → (w ≟ ascii "goto") ≡ false → step s (word w) ≡ s
unfolding step
step_word looking w e = rw e
step_word waiting w e = refl
step_word (found x) w e = refl

module _ (s : Seek) where
  -- punctuation behind
  seek_end : (ts : List Token) (x : List ℕ) → seek s (ts ++ (tok x Punct ∷ [])) ≡ seek s ts
  seek_end ts x = seek_append s ts (tok x Punct ∷ []) ∙ ended (seek s ts)
    where
      ended : (r : Seek) → seek r (tok x Punct ∷ []) ≡ r
      ended r = unfold seek in step_plain r (tok x Punct) refl

  -- a keyword and punctuation in front
  seek_front : (w x : List ℕ) (ts : List Token) → (w ≟ ascii "goto") ≡ false → seek s (word w ∷ (tok x Punct ∷ ts)) ≡ seek s ts
  unfolding seek
  seek_front w x ts e = ap (λ r. seek (step r (tok x Punct)) ts) (step_word s w e) ∙ ap (λ r. seek r ts) (step_plain s (tok x Punct) refl)

  pub seek_while : (c : List Token) → seek s (merge (while_head c)) ≡ seek s c
  unfolding ◌≟◌
  seek_while c = seek_merge s (while_head c) ∙ seek_front (ascii "while") (ascii " (") (c ++ (tok (ascii ") {") Punct ∷ [])) refl ∙ seek_end c (ascii ") {")

  pub seek_for : (a c z : List Token) → seek s (for_head a c z) ≡ seek (seek (seek s (popped a)) c) (popped z)
  unfolding ◌≟◌
  seek_for a c z =
      let A : List Token = word (ascii "for") ∷ tok (ascii " (") Punct ∷ popped a in
      let B : List Token = tok (ascii "; ") Punct ∷ c in
      let D : List Token = tok (ascii "; ") Punct ∷ popped z in
      seek_merge s (((A ++ B) ++ D) ++ (tok (ascii ") {") Punct ∷ [])) ∙ seek_end ((A ++ B) ++ D) (ascii ") {") ∙ seek_append s (A ++ B) D
      ∙ seek_plain (seek s (A ++ B)) (tok (ascii "; ") Punct) (popped z) refl ∙ ap (λ r. seek r (popped z)) (seek_append s A B)
      ∙ ap (λ r. seek r (popped z)) (seek_plain (seek s A) (tok (ascii "; ") Punct) c refl)
      ∙ ap (λ r. seek (seek r c) (popped z)) (seek_front (ascii "for") (ascii " (") (popped a) refl)

-- Popped runs

pub popped_end : (ts : List Token) (n : ℕ) → n ≡ length ts → (n ≡ 0 → ⊥)
    → popped ts ≡ take (n - 1) ts ++ (tok (pop (get_or ts (n - 1) no_token).text) (get_or ts (n - 1) no_token).kind ∷ [])
unfolding on_last
popped_end [] n e h = absurd (h e)
popped_end (t ∷ []) n e h = rw e
popped_end (t ∷ (u ∷ ts)) n e h =
    let z : n - 1 ≡ suc (length ts) = omega arith in
    let w : suc (length ts) - 1 ≡ length ts = omega arith in
    rw z (ap (λ us. t ∷ us) (rw w at (popped_end (u ∷ ts) (suc (length ts)) refl (λ q. omega arith))))

module _ (s : Seek) where
  popped_behind : (ts : List Token) (t u : Token) → popped (ts ++ (t ∷ u ∷ [])) ≡ ts ++ (t ∷ tok (pop u.text) u.kind ∷ [])
  unfolding on_last
  popped_behind [] t u = refl
  popped_behind (a ∷ []) t u = refl
  popped_behind (a ∷ (b ∷ ts)) t u = ap (λ us. a ∷ us) (popped_behind (b ∷ ts) t u)

  -- a run cut at its first goto, with `kw;` behind
  pub popped_jumped : (ts : List Token) (kw : List ℕ) → (kw ≟ ascii "goto") ≡ false → seek s (popped (ts ++ (word kw ∷ tok (ascii ";") Punct ∷ []))) ≡ seek s ts
  popped_jumped ts kw e = ap (seek s) (popped_behind ts (word kw) (tok (ascii ";") Punct)) ∙ seek_append s ts (word kw ∷ (tok (pop (ascii ";")) Punct ∷ [])) ∙ ended (seek s ts)
    where
      ended : (r : Seek) → seek r (word kw ∷ (tok (pop (ascii ";")) Punct ∷ [])) ≡ r
      ended r = seek_front r kw (pop (ascii ";")) [] e ∙ (unfold seek in refl)

  pub popped_closed : seek s (popped (tok (ascii "}") Punct ∷ [])) ≡ s
  unfolding on_last seek
  popped_closed = step_plain s (tok (pop (ascii "}")) Punct) refl
