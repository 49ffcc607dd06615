-- The text of a condition, and two compared, as rules for `search`.
--   cut_text                                 the text of a condition is a part of the text of its tokens
--   text_past                                the part that the code takes, where there is none
--   same_is                                  two conditions compared
-- Assumes nothing.
use Rattle.std.specs.Prelude.{Option, Some}
use mathlib.Core.Path.{◌≡◌, refl, sym, ap, ap₂, subst, ◌∙◌}
use mathlib.Core.Bool.{Bool, true, false, not, cond}
use mathlib.Core.List.{List, [], ◌∷◌, ◌++◌, append-nil}
use Prim.Native.Nat.{ℕ, zero, suc, ◌+◌, ◌-◌, ◌≤◌}
use native.Mathlib.Omega.{arith}
use lib.ListN.{length, take, drop, get_or, length-append, length-drop, drop_of_length-le}
use lib.Seq.{take-append-add, drop-append-le, get_or-drop}
use Rattle.definitions.specs.Lists.{part, filter, on_first, on_last, ◌≟◌, ascii}
use Rattle.definitions.specs.Model.{Token, Line, no_token, text}
use Rattle.definitions.specs.Statements.{is_empty}
use Rattle.definitions.specs.Condition.{cut_front, cut_end, cut, condition}
use Rattle.text.proofs.Parts.{part_none}
use Rattle.text.proofs.Texts.{≟_eq}
use Rattle.condition.specs.Conditions.{conditional, Bounds, Within}
use Rattle.condition.specs.declared.Cut.{Cut}
use Rattle.pseudo_types.specs.Cuts.{text_from, same_condition}

-- Dropping empty tokens drops no byte.
filter_text : (ts : List Token) → text (filter (λ t. not (is_empty t)) ts) ≡ text ts
unfolding text filter
filter_text [] = refl
filter_text (t ∷ ts) = go (is_empty t) refl (filter_text ts)
  where
    go : (b : Bool) → is_empty t ≡ b → text (filter (λ t. not (is_empty t)) ts) ≡ text ts
        → text (cond (not b) (t ∷ filter (λ t. not (is_empty t)) ts) (filter (λ t. not (is_empty t)) ts)) ≡ t.text ++ text ts
    go true e r = r ∙ sym (ap (λ s. s ++ text ts) (≟_eq t.text [] e))
    go false e r = ap (λ s. t.text ++ s) r

-- The last token cut
end_text : (n : ℕ) (ts : List Token) (m : ℕ) → length ts ≡ suc m → n ≤ length (get_or ts m no_token).text
    → (text (on_last (cut_end n) ts) ≡ take (length (text ts) - n) (text ts)) × (n ≤ length (text ts))
unfolding text on_last
end_text n [] m e h = absurd (omega arith)
end_text n (t ∷ []) zero e h = (rw (append-nil t.text, append-nil (take (length t.text - n) t.text)), rw (append-nil t.text) h)
end_text n (t ∷ []) (suc m) e h = absurd (omega arith)
end_text n (t ∷ (u ∷ us)) zero e h = absurd (omega arith)
end_text n (t ∷ (u ∷ us)) (suc m) e h =
    let r = end_text n (u ∷ us) m (omega arith) h in
    let k = length-append t.text (text (u ∷ us)) in
    let g = r.1 in
    let z : length (t.text ++ text (u ∷ us)) - n ≡ length t.text + (length (text (u ∷ us)) - n) = omega arith in
    (rw (r.0, z) (sym (take-append-add t.text (text (u ∷ us)) (length (text (u ∷ us)) - n))), rw k (omega arith))

-- The first one cut too
both_text : (n : ℕ) (ts : List Token) (m : ℕ) → length ts ≡ suc m → 2 ≤ length (get_or ts 0 no_token).text → n ≤ length (get_or ts m no_token).text
    → text (on_last (cut_end n) (on_first (cut_front 2) ts)) ≡ part 2 (length (text ts) - n) (text ts)
unfolding text on_last on_first
both_text n [] m e f h = absurd (omega arith)
both_text n (t ∷ []) m e f h =
    let k = length-drop 2 t.text in
    let z : length t.text - n - 2 ≡ length (drop 2 t.text) - n = omega arith in
    rw (append-nil t.text, z, append-nil (take (length (drop 2 t.text) - n) (drop 2 t.text)))
both_text n (t ∷ (u ∷ us)) zero e f h = absurd (omega arith)
both_text n (t ∷ (u ∷ us)) (suc m) e f h =
    let r = end_text n (u ∷ us) m (omega arith) h in
    let R = text (u ∷ us) in
    let g = r.1 in
    let k = length-append t.text R in
    let d = length-drop 2 t.text in
    let z : length (t.text ++ R) - n - 2 ≡ length (drop 2 t.text) + (length R - n) = omega arith in
    rw (r.0, z, drop-append-le 2 t.text R f) (sym (take-append-add (drop 2 t.text) R (length R - n)))

module _ (l : Line) (k n : ℕ) (b : Bounds l k n) where
  pub cut_text : text (cut 2 n (drop (k + 1) l.tokens)) ≡ part 2 (length (text_from l (k + 1)) - n) (text_from l (k + 1))
  cut_text =
      let ts = l.tokens in
      let o = b.opened in
      let m = length ts - (k + 1) - 1 in
      let y : (k + 1) + m ≡ length ts - 1 = omega arith in
      let x : (k + 1) + 0 ≡ k + 1 = omega arith in
      let s : length (drop (k + 1) ts) ≡ suc m = length-drop (k + 1) ts ∙ omega arith in
      filter_text (on_last (cut_end n) (on_first (cut_front 2) (drop (k + 1) ts)))
      ∙ both_text n (drop (k + 1) ts) m s (rw (get_or-drop (k + 1) ts 0 no_token, x) b.front) (rw (get_or-drop (k + 1) ts m no_token, y) b.end)

-- The part that the code takes, where there is none

module _ (l : Line) (k e : ℕ) where
  pub text_past : (n : ℕ) → n ≡ length l.tokens → n ≤ k → [] ≡ part 2 (length (text_from l (k + 1)) - e) (text_from l (k + 1))
  unfolding text
  text_past n c h = rw (drop_of_length-le l.tokens (let z : length l.tokens ≤ k + 1 = omega arith in z)) (sym (part_none [] 2 (0 - e) (omega arith)))

-- Two compared

module _ (l m : Line) (a : Option Cut) (p : conditional l a ≡ condition l (ascii "if")) where
  module _ (c : Cut) (e : a ≡ Some c) (b : Option Cut) (q : conditional m b ≡ condition m (ascii "while")) where
    pub same_is : Within l a → Within m b → (d : Cut) → b ≡ Some d → (r : Bool) (s u : List ℕ)
        → s ≡ part 2 (length (text_from l (c.keyword + 1)) - c.end) (text_from l (c.keyword + 1)) → u ≡ part 2 (length (text_from m (d.keyword + 1)) - d.end) (text_from m (d.keyword + 1))
        → r ≡ (s ≟ u) → r ≡ same_condition l m
    same_is x y d f r s u g h k' =
        let B : Bounds l c.keyword c.end = subst (Within l) e x in
        let D : Bounds m d.keyword d.end = subst (Within m) f y in
        k' ∙ ap₂ ◌≟◌ (g ∙ sym (cut_text l c.keyword c.end B)) (h ∙ sym (cut_text m d.keyword d.end D)) ∙ rw (← p, e, ← q, f)
