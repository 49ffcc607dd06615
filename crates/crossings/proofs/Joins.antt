-- Marking gotos one after the other, as rules for `search`.
--   leb_max                 a number that is at most the greater of two
--   crosses_between         a goto crosses the lines behind the first of its lines up to and with the second
--   joined, marked_join     `join` and `mark`: the first of the two lines joined with the second
--   label_inside            a goto leads to a line of the listing
--   token_none, token_some  `mark_goto`
--   gotos_at                the gotos of a line from the one at place k on
--   tokens_start, tokens_next, tokens_end     the loop of `mark_line`
--   lines_start, lines_next, lines_end        the loop of `mark_lines`
--   marked_empty, empty_kept     what was marked in an empty column
--   no_gotos                a listing without gotos
-- Assumes nothing.
use Rattle.std.specs.Prelude.{Option, None, Some}
use Prim.Native.Nat.{ℕ, zero, suc, ◌+◌, ◌-◌, ◌<◌, ◌≤◌, max, min}
use mathlib.Core.Path.{◌≡◌, refl, sym, ap, ◌∙◌}
use mathlib.Core.Logic.{inl, inr}
use mathlib.Core.Bool.{Bool, true, false, cond, ◌&&◌, ◌||◌, or-false, or_assoc}
use mathlib.Core.List.{List, [], ◌∷◌, ◌++◌, map, map-append}
use native.Mathlib.Decide.{ℕ_discrete}
use native.Mathlib.Nat.{sub-zero}
use native.Mathlib.Omega.{arith}
use borrow.Author.Tests.{le-leb, lt-ltb, le-ltb, leb-true, ltb-true}
use lib.Dec.{leb, ltb}
use lib.ListN.{length, get_or, set, take, drop}
use lib.Seq.{get_or-set_same, get_or-set_other}
use Rattle.definitions.specs.Lists.{◌>>=◌, to_list, any, concat, part, range, up_to, last_position, ◌≟◌, ascii}
use Rattle.definitions.specs.Model.{Token, Line}
use Rattle.definitions.specs.Columns.{token_list, listing}
use Rattle.definitions.specs.Statements.{is_kw, is_label, label, first_symbol, targets}
use Rattle.definitions.specs.FlowGraph.{label_line, jumps}
use Rattle.definitions.specs.SplitPoints.{Jump, all_jumps, crosses}
use Rattle.text.proofs.Parts.{part_tail}
use Rattle.model.specs.Places.{line_start, line_end}
use Rattle.model.proofs.Decode.{length_listing, length_tokens}
use Rattle.theory.proofs.Bools.{same_test, and_both, and_split, or_left, or_right, or_cases, not_so, lt_or_ge}
use Rattle.theory.proofs.ListLaws.{any_found, any_here, member_range, range_member}
use Rattle.labels.specs.Gotos.{targets_at, goto_line}
use Rattle.labels.proofs.Leads.{line_tokens, leads_at, left_falls}
use Rattle.crossings.specs.Crossed.{goto, gotos, line_gotos, crossed, Marked, Marking}

-- One goto

module _ (i q k : ℕ) where
  pub crosses_between : crosses k (goto i q) ≡ (ltb (min i q) k && leb k (max i q))
  crosses_between = same_test _ _ there back
    where
      there : crosses k (goto i q) ≡ true → (ltb (min i q) k && leb k (max i q)) ≡ true
      there e = elim (or_cases (ltb i k && leb k q) (leb k i && ltb q k) e) [
        | inl h ↦ (let r = and_split (ltb i k) (leb k q) h in let a = ltb-true i k r.0 in let b = leb-true k q r.1 in
            and_both (lt-ltb (min i q) k (omega arith)) (le-leb k (max i q) (omega arith)))
        | inr h ↦ (let r = and_split (leb k i) (ltb q k) h in let a = leb-true k i r.0 in let b = ltb-true q k r.1 in
            and_both (lt-ltb (min i q) k (omega arith)) (le-leb k (max i q) (omega arith)))
      ]

      back : (ltb (min i q) k && leb k (max i q)) ≡ true → crosses k (goto i q) ≡ true
      back e =
          let r = and_split (ltb (min i q) k) (leb k (max i q)) e in
          let a = ltb-true (min i q) k r.0 in
          let b = leb-true k (max i q) r.1 in
          elim (lt_or_ge i q) [
            | inl h ↦ or_left (ltb i k && leb k q) (leb k i && ltb q k) (and_both (lt-ltb i k (omega arith)) (le-leb k q (omega arith)))
            | inr h ↦ or_right (ltb i k && leb k q) (leb k i && ltb q k) (and_both (le-leb k i (omega arith)) (lt-ltb q k (omega arith)))
          ]

-- a test that is as before but at a
any_one : (p p' : ℕ → Bool) (a : ℕ) (q : Bool) (k : ℕ) → ((x : ℕ) → (x ≡ a → ⊥) → p' x ≡ p x) → p' a ≡ (p a || q)
    → any p' (up_to k) ≡ (any p (up_to k) || (ltb a k && q))
any_one p p' a q k other here = same_test _ _ there back
  where
    there : any p' (up_to k) ≡ true → (any p (up_to k) || (ltb a k && q)) ≡ true
    there e =
        let w = any_found p' (up_to k) e in
        let b = member_range w.0 0 k w.1 in
        elim (ℕ_discrete w.0 a) [
          | yes z ↦ (elim (or_cases (p a) q (sym here ∙ ap p' (sym z) ∙ w.2)) [
            | inl h ↦ or_left (any p (up_to k)) (ltb a k && q) (any_here p (up_to k) a (rw z at w.1) h)
            | inr h ↦ or_right (any p (up_to k)) (ltb a k && q) (and_both (lt-ltb a k (omega arith)) h)
          ])
          | no z ↦ or_left (any p (up_to k)) (ltb a k && q) (any_here p (up_to k) w.0 w.1 (sym (other w.0 z) ∙ w.2))
        ]

    back : (any p (up_to k) || (ltb a k && q)) ≡ true → any p' (up_to k) ≡ true
    back e = elim (or_cases (any p (up_to k)) (ltb a k && q) e) [
      | inl h ↦ (let w = any_found p (up_to k) h in any_here p' (up_to k) w.0 w.1 (elim (ℕ_discrete w.0 a) [
        | yes z ↦ ap p' z ∙ here ∙ or_left (p a) q (ap p (sym z) ∙ w.2)
        | no z ↦ other w.0 z ∙ w.2
      ]))
      | inr h ↦ (let r = and_split (ltb a k) q h in
          any_here p' (up_to k) a (range_member a 0 k (omega arith) (omega (arith, ltb-true a k r.0))) (here ∙ or_right (p a) q r.1))
    ]

pub leb_max : (k a b : ℕ) → leb k (max a b) ≡ (leb k a || leb k b)
leb_max k a b = same_test _ _ there back
  where
    there : leb k (max a b) ≡ true → (leb k a || leb k b) ≡ true
    there e = let g = leb-true k (max a b) e in elim (lt_or_ge a b) [
      | inl h ↦ or_right (leb k a) (leb k b) (le-leb k b (omega arith))
      | inr h ↦ or_left (leb k a) (leb k b) (le-leb k a (omega arith))
    ]

    back : (leb k a || leb k b) ≡ true → leb k (max a b) ≡ true
    back e = elim (or_cases (leb k a) (leb k b) e) [
      | inl h ↦ (let g = leb-true k a h in le-leb k (max a b) (omega arith))
      | inr h ↦ (let g = leb-true k b h in le-leb k (max a b) (omega arith))
    ]

pub joined : (far : List ℕ) (a b v w u : ℕ) → w ≡ get_or far a 0 → u ≡ b → v ≡ max w u → set far a v ≡ set far a (max (get_or far a 0) b)
joined far a b v w u p q e = rw (e, p, q)

module _ (far₀ far : List ℕ) (i q : ℕ) where
  pub marked_join : (a b : ℕ) → a ≡ min i q → b ≡ max i q → i < length far₀ → q < length far₀ → far ≡ set far₀ a (max (get_or far₀ a 0) b)
      → Marked far₀ far (goto i q ∷ [])
  unfolding crossed any
  marked_join a b p r h g e = record {
    at = λ k.
        ap (λ (l : List ℕ). any (λ x. leb k (get_or l x 0)) (up_to k)) e
        ∙ any_one (λ x. leb k (get_or far₀ x 0)) (λ x. leb k (get_or (set far₀ a (max (get_or far₀ a 0) b)) x 0)) a (leb k b) k
        (λ x n. ap (leb k) (get_or-set_other far₀ a x (max (get_or far₀ a 0) b) 0 n))
        (ap (leb k) (get_or-set_same far₀ a (max (get_or far₀ a 0) b) 0 (omega arith)) ∙ leb_max k (get_or far₀ a 0) b)
        ∙ ap (any (λ x. leb k (get_or far₀ x 0)) (up_to k) ||◌)
        (ap (λ (x : ℕ). ltb x k && leb k b) p ∙ ap (λ (x : ℕ). ltb (min i q) k && leb k x) r ∙ sym (crosses_between i q k) ∙ sym (or-false (crosses k (goto i q))));
  }

-- One goto

last_inside : {A : Type 0} (p : A → Bool) (xs : List A) (k : ℕ) → last_position p xs ≡ Some k → k < length xs
unfolding last_position
last_inside p [] k e = let z : ◌≡◌ {A = ℕ} 0 1 = cc in absurd (omega arith)
last_inside p (x ∷ xs) k e = go (last_position p xs) (last_inside p xs) (p x) e
  where
    go : (o : Option ℕ) → ((k : ℕ) → o ≡ Some k → k < length xs) → (b : Bool)
        → (elim o [ Some j ↦ Some (suc j) | None ↦ cond b (Some 0) None ]) ≡ Some k → k < suc (length xs)
    go (Some j) r b e = let h = r j refl in let z : suc j ≡ k = cc in omega arith
    go None r true e = let z : 0 ≡ k = cc in omega arith
    go None r false e = let z : ◌≡◌ {A = ℕ} 0 1 = cc in absurd (omega arith)

pub label_inside : (l t x : List ℕ) (us : List Token) (far : List ℕ) (k e q : ℕ) (f : Option ℕ) → f ≡ goto_line (listing l t x) us k e → f ≡ Some q → length l ≤ length far → q < length far
unfolding label_line
label_inside l t x us far k e q f w z h =
    omega (arith, length_listing l t x, go (first_symbol (part k e us)) (sym w ∙ z))
  where
    go : (o : Option (List ℕ)) → (o >>= label_line (listing l t x)) ≡ Some q → q < length (listing l t x)
    go (Some s) e = last_inside (λ l. is_label l && (label l ≟ s)) (listing l t x) q e
    go None e = let z : ◌≡◌ {A = ℕ} 0 1 = cc in absurd (omega arith)

module _ (i : ℕ) (f : Option ℕ) (o : Option ℕ) (e : f ≡ o) where
  pub token_none : f ≡ None → (far : List ℕ) → Marked far far (gotos i (to_list o))
  unfolding any
  token_none z far = rw (← e, z) (record { at = λ k. sym (or-false (crossed far k)) })

  pub token_some : (q : ℕ) (far₀ far : List ℕ) → f ≡ Some q → Marked far₀ far (goto i q ∷ []) → Marked far₀ far (gotos i (to_list o))
  token_some q far₀ far z m = rw (← e, z) m

-- One list of gotos after the other

any_append : {A : Type 0} (p : A → Bool) (xs ys : List A) → any p (xs ++ ys) ≡ (any p xs || any p ys)
unfolding any
any_append p [] ys = refl
any_append p (x ∷ xs) ys = ap (p x ||◌) (any_append p xs ys) ∙ sym (or_assoc (p x) (any p xs) (any p ys))

marking_start : (far : List ℕ) (js ks : List Jump) → js ≡ ks → Marking far far js ks
marking_start far js ks e = record { at = λ k. ap (λ (l : List Jump). crossed far k || any (crosses k) l) (sym e) }

module _ (far₀ far : List ℕ) (js ks : List Jump) (M : Marking far₀ far js ks) where
  marking_next : (next : List ℕ) (xs ys : List Jump) → ks ≡ xs ++ ys → Marked far next xs → Marking far₀ next js ys
  marking_next next xs ys e N = record {
    at = λ k.
        ap (◌|| any (crosses k) ys) (N.at k) ∙ or_assoc (crossed far k) (any (crosses k) xs) (any (crosses k) ys)
        ∙ ap (crossed far k ||◌) (sym (ap (any (crosses k)) e ∙ any_append (crosses k) xs ys)) ∙ M.at k;
  }

  marking_end : ks ≡ [] → Marked far₀ far js
  unfolding any
  marking_end e = record {
    at = λ k. sym (or-false (crossed far k)) ∙ ap (λ (l : List Jump). crossed far k || any (crosses k) l) (sym e) ∙ M.at k;
  }

-- The gotos of line i from the one at the place k on

unfoldable pub gotos_at : List Line → ℕ → List Token → Option ℕ → ℕ → List Jump
gotos_at L i us k e = gotos i (concat (map to_list (leads_at L us k e)))

pub tokens_start : (l t x : List ℕ) (i s e : ℕ) (k : Option ℕ) (far : List ℕ) → s ≡ line_start l i → e ≡ line_end l t i → targets_at (token_list t x) k e ≡ targets (part s e (token_list t x))
    → Marking far far (line_gotos (listing l t x) i) (gotos_at (listing l t x) i (token_list t x) k e)
unfolding gotos_at line_gotos leads_at jumps
tokens_start l t x i s e k far p q z =
    marking_start far (line_gotos (listing l t x) i) (gotos_at (listing l t x) i (token_list t x) k e) (rw (line_tokens l t x i, ← p, ← q, z))

module _ (L : List Line) (i : ℕ) (us : List Token) (o : Option ℕ) (e : ℕ) (far₀ far : List ℕ) (js : List Jump) (M : Marking far₀ far js (gotos_at L i us o e)) where
  pub tokens_next : (next : List ℕ) (m : Option ℕ) (k : ℕ) → o ≡ Some k → Marked far next (gotos i (to_list (goto_line L us (k + 1) e))) → targets_at us m e ≡ targets (part (k + 1) e us)
      → Marking far₀ next js (gotos_at L i us m e)
  unfolding gotos_at leads_at targets_at concat
  tokens_next next m k h N z =
      marking_next far₀ far js (gotos_at L i us o e) M next (gotos i (to_list (goto_line L us (k + 1) e))) (gotos_at L i us m e)
      (rw h (map-append (goto i) (to_list (goto_line L us (k + 1) e)) (concat (map to_list (map (λ t. t >>= label_line L) (targets (part (k + 1) e us)))))
      ∙ ap (λ (ts : List (Option (List ℕ))). gotos i (to_list (goto_line L us (k + 1) e)) ++ gotos i (concat (map to_list (map (λ t. t >>= label_line L) ts)))) (sym z))) N

  pub tokens_end : o ≡ None → Marked far₀ far js
  unfolding gotos_at leads_at targets_at concat
  tokens_end h = marking_end far₀ far js (gotos_at L i us o e) M (rw h)

-- The gotos of the lines from i on

unfoldable pub lines_from : List Line → ℕ → List Jump
lines_from L i = concat (map (line_gotos L) (range i (length L - i)))

pub lines_start : (L : List Line) (far : List ℕ) → Marking far far (all_jumps L) (lines_from L 0)
unfolding lines_from all_jumps line_gotos
lines_start L far = marking_start far (all_jumps L) (lines_from L 0) (rw (sub-zero (length L)))

module _ (l t x : List ℕ) (i : ℕ) (far₀ far : List ℕ) (js : List Jump) (M : Marking far₀ far js (lines_from (listing l t x) i)) where
  pub lines_next : (next : List ℕ) → i < length l → Marked far next (line_gotos (listing l t x) i) → Marking far₀ next js (lines_from (listing l t x) (i + 1))
  unfolding lines_from range concat
  lines_next next h N =
      let z : length (listing l t x) - i ≡ suc (length (listing l t x) - (i + 1)) = omega (arith, length_listing l t x) in
      let w : suc i ≡ i + 1 = omega arith in
      marking_next far₀ far js (lines_from (listing l t x) i) M next (line_gotos (listing l t x) i) (lines_from (listing l t x) (i + 1)) (rw (z, w)) N

  pub lines_end : length l ≤ i → Marked far₀ far js
  unfolding lines_from range concat
  lines_end h =
      let z : length (listing l t x) - i ≡ 0 = omega (arith, length_listing l t x) in
      marking_end far₀ far js (lines_from (listing l t x) i) M (rw z)

-- An empty column

module _ (far₀ : List ℕ) (z : (b : ℕ) → get_or far₀ b 0 ≡ 0) where
  none_crossed : (k : ℕ) → crossed far₀ k ≡ false
  unfolding crossed
  none_crossed k = not_so (any (λ a. leb k (get_or far₀ a 0)) (up_to k)) (λ e.
      let w = any_found (λ a. leb k (get_or far₀ a 0)) (up_to k) e in
      omega (arith, member_range w.0 0 k w.1, leb-true k (get_or far₀ w.0 0) w.2, z w.0))

  pub marked_empty : (far : List ℕ) (js : List Jump) → Marked far₀ far js → (k : ℕ) → crossed far k ≡ any (crosses k) js
  marked_empty far js M k = M.at k ∙ ap (◌|| any (crosses k) js) (none_crossed k)

  pub empty_kept : (js : List Jump) → js ≡ [] → (k : ℕ) → crossed far₀ k ≡ any (crosses k) js
  unfolding any
  empty_kept js e k = none_crossed k ∙ ap (any (crosses k)) (sym e)

-- A listing without gotos

-- where there are no targets, there are none in a part
no_targets_rest : (t : Token) (ts : List Token) → targets (t ∷ ts) ≡ [] → (is_kw (ascii "goto") t ≡ false) × (targets ts ≡ [])
unfolding targets
no_targets_rest t ts e = go (is_kw (ascii "goto") t) refl e
  where
    go : (b : Bool) → is_kw (ascii "goto") t ≡ b → cond b (first_symbol ts ∷ targets ts) (targets ts) ≡ [] → (is_kw (ascii "goto") t ≡ false) × (targets ts ≡ [])
    go true q w = let z : ◌≡◌ {A = ℕ} 0 1 = cc in absurd (omega arith)
    go false q w = (q, w)

no_targets_drop : (k : ℕ) (ts : List Token) → targets ts ≡ [] → targets (drop k ts) ≡ []
no_targets_drop zero ts e = e
no_targets_drop (suc k) [] e = e
no_targets_drop (suc k) (t ∷ ts) e = no_targets_drop k ts (no_targets_rest t ts e).1

no_targets_take : (k : ℕ) (ts : List Token) → targets ts ≡ [] → targets (take k ts) ≡ []
unfolding targets
no_targets_take zero ts e = refl
no_targets_take (suc k) [] e = refl
no_targets_take (suc k) (t ∷ ts) e = let h = no_targets_rest t ts e in rw h.0 (no_targets_take k ts h.1)

no_jumps : (l t x : List ℕ) → targets (token_list t x) ≡ [] → (i : ℕ) → jumps (listing l t x) i ≡ []
unfolding jumps concat
no_jumps l t x e i =
    rw (line_tokens l t x i, no_targets_take (line_end l t i - line_start l i) (drop (line_start l i) (token_list t x)) (no_targets_drop (line_start l i) (token_list t x) e))

pub no_gotos : (l t x : List ℕ) (k : Option ℕ) → targets_at (token_list t x) k (length t) ≡ targets (part 0 (length t) (token_list t x)) → k ≡ None → all_jumps (listing l t x) ≡ []
unfolding all_jumps targets_at concat
no_gotos l t x k q h = nothing (up_to (length (listing l t x)))
  where
    none_at_all : targets (token_list t x) ≡ []
    none_at_all =
        let z : length t ≡ length (token_list t x) = omega (arith, length_tokens t x) in
        ap targets (sym (part_tail (token_list t x) 0)) ∙ (rw (h, z) at (sym q))

    nothing : (is : List ℕ) → concat (map (λ i. map (goto i) (jumps (listing l t x) i)) is) ≡ []
    nothing [] = refl
    nothing (i ∷ is) = rw (no_jumps l t x none_at_all i) (nothing is)

pub ruleset joins = (joined, marked_join, label_inside, token_none, token_some, tokens_start, tokens_next, tokens_end, lines_start, lines_next, lines_end, marked_empty, empty_kept, no_gotos, left_falls)
