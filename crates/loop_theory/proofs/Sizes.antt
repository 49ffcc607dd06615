-- What a change of tokens does to their number and to their bytes.
--   Measure m            m measures tokens: shorter texts measure no more, joined ones no more than their parts
--   merge_size, condition_size, test_size    merging, a condition and a leading test's negated condition, against the tokens they come from
--   while_size, for_size                     the headers against theirs
-- Assumes nothing.
use Rattle.std.specs.Prelude.{Option, None, Some, slice_get}
use Prim.Native.Nat.{ℕ, suc, ◌+◌, ◌-◌, ◌≤◌}
use mathlib.Core.Path.{◌≡◌, refl, subst}
use mathlib.Core.Bool.{◌&&◌, not}
use mathlib.Core.List.{List, [], ◌∷◌, ◌++◌, reverse}
use native.Mathlib.Omega.{arith}
use native.Mathlib.Nat.{le_trans, add-zero}
use lib.Dec.{leb, ltb}
use borrow.Author.Tests.{leb-true}
use lib.ListN.{length, take, drop, length-append, length-take, length-drop, length-reverse}
use Rattle.definitions.specs.Lists.{require, all, position, first, last, part, on_first, on_last, on_part, starts_with, ends_with, ascii}
use Rattle.definitions.specs.Model.{Token, Line, tok, text, Keyword, Punct}
use Rattle.definitions.specs.Statements.{is_kw, is_empty, joins, glue, merge}
use Rattle.definitions.specs.Condition.{cut_front, cut_end, cut, closing, condition, Comparison, comparisons, Found, nothing_seen, scan, flip, only_comparison, negate_cond}
use Rattle.definitions.specs.ToFor.{pop_reversed, pop, popped, for_head}
use Rattle.definitions.specs.Passes.{while_head}
use Rattle.definitions.specs.RecoverGotoLoops.{is_leading_test, leading_test}
use Rattle.loop_theory.proofs.Cases.{some_same, if_has, IfSome, do_has}
use Rattle.loop_theory.proofs.Sums.{sum, sum_append, sum_halves, sum_filter, sum_on_first, sum_on_last, sum_on_one}
use Rattle.loop_theory.proofs.Comparisons.{find_among, Stands, comparison_stands}

pub record Measure (m : Token → ℕ) : Type 0 where
  pub shorter : (s u : List ℕ) (k : ℕ) → length s ≤ length u → m (tok s k) ≤ m (tok u k)
  pub joined : (s u : List ℕ) (j k : ℕ) → m (tok (s ++ u) j) ≤ m (tok s j) + m (tok u k)
  -- what a negation may add, by a longer comparison or by brackets
  pub negation : ℕ
  pub flipped : (s u : List ℕ) (k : ℕ) → length s ≤ length u + 4 → m (tok s k) ≤ m (tok u k) + negation
  pub bracketed : m (tok (ascii "!(") Punct) + m (tok (ascii ")") Punct) ≤ negation

-- Texts

pop_shorter : (s : List ℕ) → length (pop s) ≤ length s
unfolding pop_reversed
pop_shorter s = rw length-reverse (omega (arith, reversed (reverse s), length-reverse s))
  where
    reversed : (s : List ℕ) → length (pop_reversed s) ≤ length s
    reversed [] = omega arith
    reversed (b ∷ s) =
        let rest = reversed s in
        if_has (λ (u : List ℕ). length u ≤ suc (length s)) (leb 128 b && ltb b 192) (λ _. omega arith) (λ _. omega arith)

flip_longer : (f : Found) (t : Token) → length f.comparison.flipped ≤ 4 → length (flip f t).text ≤ length t.text + 4
flip_longer f t le =
    let s = t.text in
    let after = f.pos + length f.comparison.op in
    simp (length-append, length-take, length-drop) (omega arith)

short_comparison : (f : Found) (c : List Token) → Stands c f → length f.comparison.flipped ≤ 4
unfolding all comparisons
short_comparison f c stands = leb-true (length f.comparison.flipped) 4
    (find_among _ (λ (x : Comparison). leb (length x.flipped) 4) comparisons refl f.comparison stands.there)

-- the tokens of a for header that are its own
abbrev pub for_tokens : List Token
for_tokens = tok (ascii "for") Keyword ∷ tok (ascii " (") Punct ∷ tok (ascii "; ") Punct ∷ tok (ascii "; ") Punct ∷ tok (ascii ") {") Punct ∷ []

module _ (m : Token → ℕ) (M : Measure m) where
  pub merge_size : (ts : List Token) → sum m (merge ts) ≤ sum m ts
  unfolding sum merge glue
  merge_size [] = omega arith
  merge_size (t ∷ ts) = omega (arith, glued (merge ts), merge_size ts)
    where
      glued : (us : List Token) → sum m (glue t us) ≤ m t + sum m us
      glued [] = omega arith
      glued (u ∷ us) =
          if_has (λ ts. sum m ts ≤ m t + (m u + sum m us)) (joins t u)
          (λ _. omega (arith, M.joined t.text u.text t.kind u.kind)) (λ _. omega arith)

  cut_size : (n k : ℕ) (ts : List Token) → sum m (cut n k ts) ≤ sum m ts
  cut_size n k ts =
      let front : (t : Token) → m (cut_front n t) ≤ m t + 0 =
      λ t. rw add-zero (M.shorter (drop n t.text) t.text t.kind (rw length-drop (omega arith))) in
      let end : (t : Token) → m (cut_end k t) ≤ m t + 0 =
      λ t. rw add-zero (M.shorter (take (length t.text - k) t.text) t.text t.kind (rw length-take (omega arith))) in
      let us = on_first (cut_front n) ts in
      let vs = on_last (cut_end k) us in
      omega (arith, sum_on_first m (cut_front n) 0 front ts, sum_on_last m (cut_end k) 0 end us, sum_filter m (λ t. not (is_empty t)) vs)

  pub condition_size : (l : Line) (kw : List ℕ) → IfSome (λ c. sum m c ≤ sum m l.tokens) (condition l kw)
  unfolding condition
  condition_size l kw =
      let Q : List Token → Type 0 = λ c. sum m c ≤ sum m l.tokens in
      do_has Q (position (is_kw kw) l.tokens) λ k _.
      do_has Q (slice_get l.tokens (k + 1)) λ opening _.
      do_has Q (last l.tokens) λ end _.
      do_has Q (require (starts_with (ascii " (") opening.text)) λ _ _.
      do_has Q (closing end.text) λ n _ c e.
      subst Q (some_same e) (omega (arith, cut_size 2 n (drop (k + 1) l.tokens), sum_halves m (k + 1) l.tokens))

  negation_size : (c : List Token) → sum m (negate_cond c) ≤ sum m c + M.negation
  unfolding negate_cond sum
  negation_size c = go (only_comparison (scan 0 c nothing_seen)) (comparison_stands c)
    where
      go : (o : Option Found) → IfSome (Stands c) o
          → sum m (elim o [
            | Some f ↦ on_part f.place (f.place + 1) (flip f) c
            | None ↦ merge (tok (ascii "!(") Punct ∷ (c ++ (tok (ascii ")") Punct ∷ [])))
          ]) ≤ sum m c + M.negation
      go (Some f) h =
          sum_on_one m (flip f) M.negation
          (λ t. M.flipped (flip f t).text t.text t.kind (flip_longer f t (short_comparison f c (h f refl)))) f.place c
      go None h =
          let end = tok (ascii ")") Punct ∷ [] in
          omega (arith, merge_size (tok (ascii "!(") Punct ∷ (c ++ end)), sum_append m c end, M.bracketed)

  pub test_size : (l : Line) (d : ℕ) → IfSome (λ c. sum m c ≤ sum m l.tokens + M.negation) (leading_test l d)
  unfolding leading_test
  test_size l d =
      let Q : List Token → Type 0 = λ c. sum m c ≤ sum m l.tokens + M.negation in
      do_has Q (require (is_leading_test l d)) λ _ _.
      do_has Q (position (is_kw (ascii "break")) l.tokens) λ g _.
      let inner = part 1 g l.tokens in
      do_has Q (first inner) λ opening _.
      do_has Q (require (starts_with (ascii " (") opening.text)) λ _ _.
      do_has Q (last (on_first (cut_front 2) inner)) λ end _.
      do_has Q (require (ends_with (ascii ") ") end.text)) λ _ _ c e.
      subst Q (some_same e)
      (omega (arith, negation_size (cut 2 2 inner), cut_size 2 2 inner, sum_halves m (g - 1) (drop 1 l.tokens), sum_halves m 1 l.tokens))

  pub while_size : (c : List Token) → sum m (while_head c) ≡ sum m c + sum m (while_head [])
  unfolding sum
  while_size c = omega (arith, sum_append m c (tok (ascii ") {") Punct ∷ []))

  popped_size : (ts : List Token) → sum m (popped ts) ≤ sum m ts + 0
  popped_size =
      sum_on_last m (λ t. tok (pop t.text) t.kind) 0
      (λ t. rw add-zero (M.shorter (pop t.text) t.text t.kind (pop_shorter t.text)))

  pub for_size : (init c step : List Token) → sum m (for_head init c step) ≤ sum m init + sum m c + sum m step + sum m for_tokens
  unfolding sum
  for_size init c step =
      le_trans (merge_size _) (simp (sum_append m) (omega (arith, popped_size init, popped_size step)))
