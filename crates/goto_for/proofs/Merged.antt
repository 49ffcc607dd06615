-- The condition of a merged while header, read again, and merging what is merged.
--   for_head_merged       a for header over a merged condition
--   joins_kind            two tokens that join are of one kind
--   filled t              the token t is not empty
--   all_merge             merging makes no token empty
--   condition_merged      the condition of a merged while header is the merged condition
-- Assumes nothing.
use Rattle.std.specs.Prelude.{Option, Some}
use Prim.Native.Nat.{ℕ, ◌+◌, ◌-◌, ◌≤◌}
use mathlib.Core.Path.{◌≡◌, refl, sym, ap, ◌∙◌}
use mathlib.Core.Bool.{Bool, true, false, cond, ◌&&◌, ◌||◌, not}
use mathlib.Core.List.{List, [], ◌∷◌, ◌++◌, append-nil, append_assoc}
use mathlib.Core.Logic.{◌⊎◌, inl, inr, ⊎_elim}
use native.Mathlib.Omega.{arith}
use borrow.Author.Tests.{eqb-true, le-leb}
use lib.Dec.{eqb}
use lib.ListN.{length, take, length-append}
use lib.Seq.{take-append-add, drop-append_seam}
use Rattle.definitions.specs.Lists.{filter, all, first, last, on_first, on_last, position, starts_with, ◌≟◌, ascii}
use Rattle.definitions.specs.Model.{Token, tok, pseudo_line, Keyword, Punct, Text}
use Rattle.definitions.specs.Statements.{is_empty, joins, glue, merge}
use Rattle.definitions.specs.Condition.{cut_front, cut_end, cut, closing, condition}
use Rattle.definitions.specs.ToFor.{popped, for_head}
use Rattle.definitions.specs.Passes.{while_head}
use Rattle.text.proofs.Texts.{eq_≟}
use Rattle.loop_theory.proofs.Cases.{true_false, none_some, some_same, if_has}
use Rattle.loop_theory.proofs.AnyAll.{all_cons, all_and}

-- Merging what is merged

module _ (t u : Token) (us : List Token) where
  glue_joins : joins t u ≡ true → glue t (u ∷ us) ≡ tok (t.text ++ u.text) t.kind ∷ us
  unfolding glue
  glue_joins e = rw e

  glue_apart : joins t u ≡ false → glue t (u ∷ us) ≡ t ∷ (u ∷ us)
  unfolding glue
  glue_apart e = rw e

pub joins_kind : (t u : Token) → joins t u ≡ true → t.kind ≡ u.kind
joins_kind t u e = go (eqb t.kind u.kind) refl e
  where
    go : (b : Bool) → eqb t.kind u.kind ≡ b → (b && (eqb u.kind Punct || eqb u.kind Text)) ≡ true → t.kind ≡ u.kind
    go true k f = eqb-true t.kind u.kind k
    go false k f = cc

glue_glue : (t u : Token) (us : List Token) → joins t u ≡ true → glue t (glue u us) ≡ glue (tok (t.text ++ u.text) t.kind) us
glue_glue t u [] e = unfold glue in rw e
glue_glue t u (v ∷ us) e = go (joins u v) refl
  where
    go : (b : Bool) → joins u v ≡ b → glue t (glue u (v ∷ us)) ≡ glue (tok (t.text ++ u.text) t.kind) (v ∷ us)
    go true q =
        let k = joins_kind t u e in
        let r : joins (tok (t.text ++ u.text) t.kind) v ≡ true = rw k q in
        rw (glue_joins u v us q, glue_joins t (tok (u.text ++ v.text) u.kind) us e, glue_joins (tok (t.text ++ u.text) t.kind) v us r, append_assoc)
    go false q =
        let k = joins_kind t u e in
        let r : joins (tok (t.text ++ u.text) t.kind) v ≡ false = rw k q in
        rw (glue_apart u v us q, glue_joins t u (v ∷ us) e, glue_apart (tok (t.text ++ u.text) t.kind) v us r)

merge_glue : (t : Token) (us zs : List Token) → merge (glue t us ++ zs) ≡ glue t (merge (us ++ zs))
unfolding merge
merge_glue t [] zs = unfold glue in refl
merge_glue t (u ∷ us) zs = go (joins t u) refl
  where
    go : (b : Bool) → joins t u ≡ b → merge (glue t (u ∷ us) ++ zs) ≡ glue t (glue u (merge (us ++ zs)))
    go true e = rw (glue_joins t u us e) (sym (glue_glue t u (merge (us ++ zs)) e))
    go false e = rw (glue_apart t u us e)

merge_before : (ys zs : List Token) → merge (merge ys ++ zs) ≡ merge (ys ++ zs)
unfolding merge
merge_before [] zs = refl
merge_before (y ∷ ys) zs = merge_glue y (merge ys) zs ∙ ap (glue y) (merge_before ys zs)

merge_inside : (xs ys zs : List Token) → merge (xs ++ (merge ys ++ zs)) ≡ merge (xs ++ (ys ++ zs))
unfolding merge
merge_inside [] ys zs = merge_before ys zs
merge_inside (x ∷ xs) ys zs = ap (glue x) (merge_inside xs ys zs)

pub for_head_merged : (init c step : List Token) → for_head init (merge c) step ≡ for_head init c step
for_head_merged init c step =
    let A : List Token = tok (ascii "for") Keyword ∷ tok (ascii " (") Punct ∷ popped init in
    let B : List Token = tok (ascii "; ") Punct ∷ popped step in
    let E : List Token = tok (ascii ") {") Punct ∷ [] in
    let S : List Token = tok (ascii "; ") Punct ∷ [] in
    regroup A S (merge c) B E ∙ (merge_inside (A ++ S) c (B ++ E) ∙ sym (regroup A S c B E))
  where
    regroup : (a s m b e : List Token) → merge (((a ++ (s ++ m)) ++ b) ++ e) ≡ merge ((a ++ s) ++ (m ++ (b ++ e)))
    regroup a s m b e = ap merge (simp append_assoc)

-- No token is empty

abbrev pub filled : Token → Bool
filled t = not (is_empty t)

filled_append : (s u : List ℕ) → not (s ≟ []) ≡ true → not ((s ++ u) ≟ []) ≡ true
unfolding ◌≟◌
filled_append [] u h = true_false {b = false} h refl
filled_append (b ∷ s) u h = refl

all_glue : (t : Token) (us : List Token) → filled t ≡ true → all filled us ≡ true → all filled (glue t us) ≡ true
unfolding glue
all_glue t [] h k = all_and filled t [] h k
all_glue t (u ∷ us) h k =
    let s = all_cons filled u us k in
    if_has (λ vs. all filled vs ≡ true) (joins t u)
    (λ _. all_and filled (tok (t.text ++ u.text) t.kind) us (filled_append t.text u.text h) s.1) (λ _. all_and filled t (u ∷ us) h k)

pub all_merge : (c : List Token) → all filled c ≡ true → all filled (merge c) ≡ true
unfolding merge
all_merge [] h = h
all_merge (t ∷ c) h = let s = all_cons filled t c h in all_glue t (merge c) s.0 (all_merge c s.1)

filter_all : (ts : List Token) → all filled ts ≡ true → filter filled ts ≡ ts
unfolding filter
filter_all [] h = refl
filter_all (t ∷ ts) h = let s = all_cons filled t ts h in rw (s.0, filter_all ts s.1)

-- Brackets at the ends

abbrev bracket : List ℕ → Token
bracket s = tok s Punct

-- the first token loses ` (`
opened : (M : List Token) → on_first (cut_front 2) (glue (bracket (ascii " (")) M) ≡ glue (bracket []) M
unfolding on_first glue
opened [] = refl
opened (u ∷ us) = go (joins (bracket []) u)
  where
    go : (b : Bool) → on_first (cut_front 2) (cond b (tok (ascii " (" ++ u.text) Punct ∷ us) (bracket (ascii " (") ∷ (u ∷ us)))
        ≡ cond b (tok u.text Punct ∷ us) (bracket [] ∷ (u ∷ us))
    go true = refl
    go false = refl

-- the last token has at least n bytes
unfoldable long : ℕ → List Token → Type 0
long n [] = ⊥
long n (u ∷ []) = n ≤ length u.text
long n (u ∷ (v ∷ us)) = long n (v ∷ us)

module _ (n : ℕ) where
  long_glue : (t : Token) (us : List Token) → long n us → long n (glue t us)
  unfolding long glue
  long_glue t [] h = absurd h
  long_glue t (u ∷ []) h = if_has (long n) (joins t u) (λ _. omega (arith, h, length-append t.text u.text)) (λ _. h)
  long_glue t (u ∷ (v ∷ us)) h = if_has (long n) (joins t u) (λ _. h) (λ _. h)

  cut_joined : (s u : List ℕ) → n ≤ length u → take (length (s ++ u) - n) (s ++ u) ≡ s ++ take (length u - n) u
  cut_joined s u h =
      let z : length (s ++ u) - n ≡ length s + (length u - n) = omega (arith, length-append s u) in
      rw (z, take-append-add)

  end_glue : (t : Token) (us : List Token) → long n us → on_last (cut_end n) (glue t us) ≡ glue t (on_last (cut_end n) us)
  unfolding long glue on_last
  end_glue t [] h = absurd h
  end_glue t (u ∷ []) h = go (joins t u)
    where
      go : (b : Bool) → on_last (cut_end n) (cond b (tok (t.text ++ u.text) t.kind ∷ []) (t ∷ (u ∷ [])))
          ≡ cond b (tok (t.text ++ take (length u.text - n) u.text) t.kind ∷ []) (t ∷ (cut_end n u ∷ []))
      go true = ap (λ s. tok s t.kind ∷ []) (cut_joined t.text u.text h)
      go false = refl
  end_glue t (u ∷ (v ∷ us)) h = go (joins t u)
    where
      go : (b : Bool) → on_last (cut_end n) (cond b (tok (t.text ++ u.text) t.kind ∷ (v ∷ us)) (t ∷ (u ∷ (v ∷ us))))
          ≡ cond b (tok (t.text ++ u.text) t.kind ∷ on_last (cut_end n) (v ∷ us)) (t ∷ (u ∷ on_last (cut_end n) (v ∷ us)))
      go true = refl
      go false = refl

  module _ (t : Token) (h : n ≤ length t.text) where
    long_merge : (c : List Token) → long n (merge (c ++ (t ∷ [])))
    unfolding merge
    long_merge [] = unfold long glue in h
    long_merge (u ∷ c) = long_glue u (merge (c ++ (t ∷ []))) (long_merge c)

    ended : (c : List Token) → on_last (cut_end n) (merge (c ++ (t ∷ []))) ≡ merge (c ++ (cut_end n t ∷ []))
    unfolding merge
    ended [] = unfold glue on_last in refl
    ended (u ∷ c) = end_glue u (merge (c ++ (t ∷ []))) (long_merge c) ∙ ap (glue u) (ended c)

-- an empty bracket in front or behind goes with the empty tokens

nothing_before : (M : List Token) → filter filled (glue (bracket []) M) ≡ filter filled M
unfolding filter glue ◌≟◌
nothing_before [] = refl
nothing_before (u ∷ us) = go (joins (bracket []) u) refl
  where
    go : (b : Bool) → joins (bracket []) u ≡ b → filter filled (cond b (tok u.text Punct ∷ us) (bracket [] ∷ (u ∷ us))) ≡ filter filled (u ∷ us)
    go true e = let k = joins_kind (bracket []) u e in rw k
    go false e = refl

merge_behind_empty : (c : List Token) → (merge (c ++ (bracket [] ∷ [])) ≡ merge c) ⊎ (merge (c ++ (bracket [] ∷ [])) ≡ merge c ++ (bracket [] ∷ []))
unfolding merge glue
merge_behind_empty [] = inr refl
merge_behind_empty (t ∷ c) = ⊎_elim (λ e. inl (ap (glue t) e)) (λ e. more (merge c) e) (merge_behind_empty c)
  where
    more : (M : List Token) → merge (c ++ (bracket [] ∷ [])) ≡ M ++ (bracket [] ∷ [])
        → (glue t (merge (c ++ (bracket [] ∷ []))) ≡ glue t M) ⊎ (glue t (merge (c ++ (bracket [] ∷ []))) ≡ glue t M ++ (bracket [] ∷ []))
    more [] e = rw e (go (joins t (bracket [])))
      where
        go : (b : Bool) → (cond b (tok (t.text ++ []) t.kind ∷ []) (t ∷ (bracket [] ∷ [])) ≡ t ∷ [])
            ⊎ (cond b (tok (t.text ++ []) t.kind ∷ []) (t ∷ (bracket [] ∷ [])) ≡ t ∷ (bracket [] ∷ []))
        go true = inl (ap (λ s. tok s t.kind ∷ []) (append-nil t.text))
        go false = inr refl
    more (u ∷ us) e = inr (rw e (go (joins t u)))
      where
        go : (b : Bool) → cond b (tok (t.text ++ u.text) t.kind ∷ (us ++ (bracket [] ∷ []))) (t ∷ (u ∷ (us ++ (bracket [] ∷ []))))
            ≡ cond b (tok (t.text ++ u.text) t.kind ∷ us) (t ∷ (u ∷ us)) ++ (bracket [] ∷ [])
        go true = refl
        go false = refl

filter_append : (xs ys : List Token) → filter filled (xs ++ ys) ≡ filter filled xs ++ filter filled ys
unfolding filter
filter_append [] ys = refl
filter_append (x ∷ xs) ys = rw (filter_append xs ys) (go (filled x))
  where
    go : (b : Bool) → cond b (x ∷ (filter filled xs ++ filter filled ys)) (filter filled xs ++ filter filled ys)
        ≡ cond b (x ∷ filter filled xs) (filter filled xs) ++ filter filled ys
    go true = refl
    go false = refl

module _ (c : List Token) (h : all filled c ≡ true) where
  nothing_behind : filter filled (merge (c ++ (bracket [] ∷ []))) ≡ merge c
  unfolding filter ◌≟◌
  nothing_behind =
      let whole = filter_all (merge c) (all_merge c h) in
      ⊎_elim (λ e. ap (filter filled) e ∙ whole)
      (λ e. ap (filter filled) e ∙ (filter_append (merge c) (bracket [] ∷ []) ∙ (append-nil (filter filled (merge c)) ∙ whole))) (merge_behind_empty c)

  cut_merged : cut 2 3 (merge (bracket (ascii " (") ∷ (c ++ (bracket (ascii ") {") ∷ [])))) ≡ merge c
  unfolding merge
  cut_merged =
      let M = merge (c ++ (bracket (ascii ") {") ∷ [])) in
      ap (λ ts. filter filled (on_last (cut_end 3) ts)) (opened M)
      ∙ (ap (filter filled) (end_glue 3 (bracket []) M (long_merge 3 (bracket (ascii ") {")) (omega arith) c)
      ∙ ap (glue (bracket [])) (ended 3 (bracket (ascii ") {")) (omega arith) c))
      ∙ (nothing_before (merge (c ++ (bracket [] ∷ []))) ∙ nothing_behind))

-- The first token opens the bracket, the last one closes it.

opens : (M : List Token) → (t : Token) × (first (glue (bracket (ascii " (")) M) ≡ Some t) × (starts_with (ascii " (") t.text ≡ true)
unfolding glue starts_with
opens [] = (bracket (ascii " ("), refl, refl)
opens (u ∷ us) = go (joins (bracket (ascii " (")) u)
  where
    go : (b : Bool) → (t : Token) × (first (cond b (tok (ascii " (" ++ u.text) Punct ∷ us) (bracket (ascii " (") ∷ (u ∷ us))) ≡ Some t) × (starts_with (ascii " (") t.text ≡ true)
    go true = (tok (ascii " (" ++ u.text) Punct, refl, refl)
    go false = (bracket (ascii " ("), refl, refl)

record Closes (ts : List Token) : Type 0 where
  end : Token
  front : List ℕ
  at : last ts ≡ Some end
  is : end.text ≡ front ++ ascii ") {"

closes_glue : (t : Token) (us : List Token) → Closes us → Closes (glue t us)
unfolding glue last
closes_glue t [] c = none_some c.at
closes_glue t (u ∷ []) c =
    let same : u ≡ c.end = some_same c.at in
    if_has Closes (joins t u)
    (λ _. record {
      end = tok (t.text ++ u.text) t.kind;
      front = t.text ++ c.front;
      at = refl;
      is = ap (λ (v : Token). t.text ++ v.text) same ∙ (ap (λ s. t.text ++ s) c.is ∙ sym (append_assoc t.text c.front (ascii ") {")));
    })
    (λ _. record { end = c.end; front = c.front; at = c.at; is = c.is })
closes_glue t (u ∷ (v ∷ us)) c =
    if_has Closes (joins t u)
    (λ _. record { end = c.end; front = c.front; at = c.at; is = c.is })
    (λ _. record { end = c.end; front = c.front; at = c.at; is = c.is })

closes_merge : (c : List Token) → Closes (merge (c ++ (bracket (ascii ") {") ∷ [])))
unfolding merge
closes_merge [] = record { end = bracket (ascii ") {"); front = []; at = unfold glue last in refl; is = refl }
closes_merge (t ∷ c) = closes_glue t (merge (c ++ (bracket (ascii ") {") ∷ []))) (closes_merge c)

closing_brace : (x : List ℕ) → closing (x ++ ascii ") {") ≡ Some 3
unfolding closing
closing_brace x =
    let n : length (x ++ ascii ") {") ≡ length x + 3 = length-append x (ascii ") {") in
    let k : length (x ++ ascii ") {") - 3 ≡ length x = omega arith in
    rw (le-leb 3 (length (x ++ ascii ") {")) (omega arith), k, drop-append_seam x (ascii ") {"), eq_≟ (ascii ") {") (ascii ") {") refl)

glue_keyword : (s : List ℕ) (us : List Token) → glue (tok s Keyword) us ≡ tok s Keyword ∷ us
unfolding glue
glue_keyword s [] = refl
glue_keyword s (u ∷ us) = rw (apart u.kind)
  where
    apart : (k : ℕ) → (eqb Keyword k && (eqb k Punct || eqb k Text)) ≡ false
    apart k = go (eqb Keyword k) refl
      where
        go : (b : Bool) → eqb Keyword k ≡ b → (b && (eqb k Punct || eqb k Text)) ≡ false
        go true e = let z : k ≡ 3 = sym (eqb-true Keyword k e) in rw z
        go false e = refl

last_cons : (t : Token) (ts : List Token) (u : Token) → last ts ≡ Some u → last (t ∷ ts) ≡ Some u
unfolding last
last_cons t [] u e = none_some e
last_cons t (v ∷ ts) u e = e

pub condition_merged : (a : Option ℕ) (i : ℕ) (c : List Token) → all filled c ≡ true
    → condition (pseudo_line a i (merge (while_head c))) (ascii "while") ≡ Some (merge c)
unfolding condition position ◌≟◌ merge
condition_merged a i c h =
    let M = merge (c ++ (bracket (ascii ") {") ∷ [])) in
    let N = glue (bracket (ascii " (")) M in
    let o = opens M in
    let e = closes_glue (bracket (ascii " (")) M (closes_merge c) in
    let z : closing e.end.text ≡ Some 3 = ap closing e.is ∙ closing_brace e.front in
    rw (glue_keyword (ascii "while") N, o.1, o.2, last_cons (tok (ascii "while") Keyword) N e.end e.at, z) (ap Some (cut_merged c h))
