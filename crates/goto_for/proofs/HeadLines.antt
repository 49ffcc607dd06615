-- The lines that the words of a plan stand for, read through their pieces of the columns.
--   word_reads       a word without a header has the tokens of its piece
--   head_kind v      the condition of the while header v
--   head_header      the header of its plan
--   head_line        its line, over `head_test`
--   head_test_same   its condition
--   head_filled      no token of which is empty
-- Assumes nothing.
use Rattle.std.specs.Prelude.{Option, None, Some}
use Prim.Native.Nat.{ℕ, ◌/◌, ◌%◌, ◌≤◌}
use mathlib.Core.Path.{◌≡◌, refl, ap, subst, ◌∙◌}
use mathlib.Core.Bool.{Bool, true, false, cond}
use mathlib.Core.List.{List, [], ◌∷◌}
use native.Mathlib.Decide.{dec_le}
use native.Mathlib.Omega.{arith}
use lib.Dec.{eqb}
use Rattle.definitions.specs.Lists.{require, or_else, all, filter, position, first, last, part, on_first, on_last, starts_with, ends_with, ◌≟◌, ascii}
use Rattle.definitions.specs.Model.{Token, Line, pseudo_line, line}
use Rattle.definitions.specs.Columns.{listing}
use Rattle.definitions.specs.Statements.{is_kw, merge}
use Rattle.definitions.specs.Condition.{cut_front, cut_end, cut}
use Rattle.definitions.specs.Passes.{while_head}
use Rattle.definitions.specs.RecoverGotoLoops.{is_leading_test, leading_test, one}
use Rattle.loop_theory.proofs.Cases.{some_same, IfSome, do_has}
use Rattle.loop_theory.proofs.AnyAll.{all_and}
use Rattle.plan.specs.Plan.{Form, Form.kept, Form.continued, Form.broken, Form.closed, Test, Test.always, Test.leading, Header.while_over, form_tokens, piece_tokens, form_of, piece_of, test_tokens, while_tokens, header_of, header_tokens, indent_at, header_at, piece_at, test_at, planned, plan_of, line_of}
use Rattle.plan.specs.Source.{Source}
use Rattle.plan.proofs.Rendered.{kept_line}
use Rattle.pieces.specs.Pieces.{piece}
use Rattle.goto_for.specs.Words.{word_line, head_test}
use Rattle.goto_for.proofs.Merged.{filled}
use Rattle.goto_for.proofs.Named.{negated_filled}

module _ (S : List Line) (l t x : List ℕ) (R : Source S l t x) where
  piece_source : (p : ℕ) → piece_tokens S (piece_of p) ≡ (piece (listing l t x) p).tokens
  unfolding form_tokens
  piece_source p = go (form_of (p % 4))
    where
      go : (f : Form) → form_tokens f (line S (p / 4)) ≡ form_tokens f (line (listing l t x) (p / 4))
      go kept = R.tokens (p / 4)
      go continued = rw (R.tokens (p / 4))
      go broken = rw (R.tokens (p / 4))
      go closed = refl

  pub word_reads : (w : ℕ) → header_at w ≡ 0 → (line_of S w).tokens ≡ (word_line (listing l t x) w).tokens
  word_reads w h = ap (λ (m : Line). m.tokens) (kept_line S w h) ∙ piece_source (piece_at w)

-- A while header

unfoldable pub head_kind : ℕ → Test
head_kind v = cond (eqb (header_at v) 3) (leading (piece_of (test_at v))) always

module _ (v : ℕ) (h : header_at v / 2 ≡ 1) where
  pub head_header : (plan_of v).header ≡ while_over (head_kind v)
  unfolding plan_of header_of head_kind
  head_header = go (dec_le (header_at v) 2)
    where
      go : Dec (header_at v ≤ 2) → (plan_of v).header ≡ while_over (head_kind v)
      go (yes g) = let z : header_at v ≡ 2 = omega arith in rw z
      go (no g) = let z : header_at v ≡ 3 = omega arith in rw z

  module _ (S : List Line) (l t x : List ℕ) (R : Source S l t x) where
    pub head_test_same : test_tokens S (piece_of (piece_at v)) (head_kind v) ≡ head_test (listing l t x) v
    unfolding test_tokens head_kind head_test
    head_test_same = go (eqb (header_at v) 3)
      where
        go : (b : Bool) → test_tokens S (piece_of (piece_at v)) (cond b (leading (piece_of (test_at v))) always)
            ≡ cond b (or_else (leading_test (piece (listing l t x) (test_at v)) 0) one) one
        go true = ap (λ ts. or_else (leading_test (pseudo_line None 1 ts) 0) one) (piece_source S l t x R (test_at v))
        go false = refl

    merged : while_tokens S (piece_of (piece_at v)) (head_kind v) ≡ merge (while_head (test_tokens S (piece_of (piece_at v)) (head_kind v)))
    unfolding while_tokens head_kind
    merged = go (eqb (header_at v) 3)
      where
        go : (b : Bool) → while_tokens S (piece_of (piece_at v)) (cond b (leading (piece_of (test_at v))) always)
            ≡ merge (while_head (test_tokens S (piece_of (piece_at v)) (cond b (leading (piece_of (test_at v))) always)))
        go true = refl
        go false = refl

    pub head_line : line_of S v ≡ pseudo_line (line_of S v).address (indent_at v) (merge (while_head (head_test (listing l t x) v)))
    unfolding planned plan_of header_tokens
    head_line =
        ap (λ H. pseudo_line (line S (piece_at v / 4)).address (indent_at v) (header_tokens S (piece_of (piece_at v)) H)) head_header
        ∙ ap (λ ts. pseudo_line (line S (piece_at v / 4)).address (indent_at v) ts) (merged ∙ ap (λ c. merge (while_head c)) head_test_same)

-- Its condition has no empty token.

filter_filled : (ts : List Token) → all filled (filter filled ts) ≡ true
unfolding filter
filter_filled [] = unfold all in refl
filter_filled (t ∷ ts) = go (filled t) refl (filter_filled ts)
  where
    go : (b : Bool) → filled t ≡ b → all filled (filter filled ts) ≡ true → all filled (cond b (t ∷ filter filled ts) (filter filled ts)) ≡ true
    go true e r = all_and filled t (filter filled ts) e r
    go false e r = r

test_filled : (m : Line) (d : ℕ) → IfSome (λ c. all filled c ≡ true) (leading_test m d)
unfolding leading_test
test_filled m d =
    do_has P (require (is_leading_test m d)) λ _ _.
    do_has P (position (is_kw (ascii "break")) m.tokens) λ g _.
    do_has P (first (part 1 g m.tokens)) λ opening _.
    do_has P (require (starts_with (ascii " (") opening.text)) λ _ _.
    do_has P (last (on_first (cut_front 2) (part 1 g m.tokens))) λ end _.
    do_has P (require (ends_with (ascii ") ") end.text)) λ _ _ c e.
    subst P (some_same e)
    (negated_filled (cut 2 2 (part 1 g m.tokens)) (filter_filled (on_last (cut_end 2) (on_first (cut_front 2) (part 1 g m.tokens)))))
  where
    P : List Token → Type 0
    P c = all filled c ≡ true

pub head_filled : (C : List Line) (v : ℕ) → all filled (head_test C v) ≡ true
unfolding head_test all ◌≟◌
head_filled C v = go (eqb (header_at v) 3) (leading_test (piece C (test_at v)) 0) (test_filled (piece C (test_at v)) 0)
  where
    go : (b : Bool) (o : Option (List Token)) → IfSome (λ c. all filled c ≡ true) o → all filled (cond b (or_else o one) one) ≡ true
    go true None f = refl
    go true (Some c) f = f c refl
    go false o f = refl
