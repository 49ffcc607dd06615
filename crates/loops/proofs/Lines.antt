-- The lines that the words of a plan stand for, read through their lines of the columns.
--   plain_form, kept_parts         a plain word has form 0, a kept one no header either
--   kept_reads                     it has the tokens of its line of the columns
--   label_same, kw_same, condition_same, inits_same, passes_same    what is asked of a line goes by its tokens
--   header_inits, header_passes    a header is no assignment
--   guard_test                     the condition of a header is that of its guard
-- Assumes nothing.
use Rattle.std.specs.Prelude.{Option, None}
use Prim.Native.Nat.{ℕ, zero, suc, ◌/◌, ◌%◌}
use mathlib.Core.Path.{◌≡◌, refl, ap, ◌∙◌}
use mathlib.Core.List.{List, [], ◌∷◌, ◌++◌}
use mathlib.Core.Bool.{Bool, true, false, cond}
use borrow.Author.Tests.{eqb-true}
use lib.Dec.{eqb, leb}
use lib.ListN.{length, get_or}
use Rattle.definitions.specs.Lists.{◌>>=◌, require, or_else, ascii}
use Rattle.definitions.specs.Model.{Token, Line, tok, no_token, pseudo_line, token, Keyword}
use Rattle.definitions.specs.Columns.{listing}
use Rattle.definitions.specs.Statements.{Assignment, is_label, has_kw, assignment, joins, glue, merge}
use Rattle.definitions.specs.Condition.{condition}
use Rattle.loop_theory.proofs.Cases.{and_split}
use Rattle.plan.specs.Plan.{Piece, Test.guard, form_tokens, form_of, piece_of, test_tokens, while_tokens, header_of, header_tokens, header_at, piece_at, test_at, initialiser_at, step_at, planned, plan_of, line_of}
use Rattle.plan.specs.Changes.{is_loop, is_plain}
use Rattle.plan.specs.Source.{Source}
use Rattle.plan.specs.ForLoop.{inits, passes}
use Rattle.plan.proofs.Rendered.{kept_tokens}
use Rattle.loops.specs.Words.{source_line, is_kept}

pub plain_form : (w : ℕ) → is_plain w ≡ true → piece_at w % 4 ≡ 0
plain_form w k = eqb-true (piece_at w % 4) 0 (and_split (eqb (piece_at w % 4) 0) (is_loop w) k).0

pub kept_parts : (w : ℕ) → is_kept w ≡ true → (header_at w ≡ 0) × (piece_at w % 4 ≡ 0)
kept_parts w k =
    let p = and_split (eqb (header_at w) 0) (is_plain w) k in
    (eqb-true (header_at w) 0 p.0, plain_form w p.1)

module _ (S : List Line) (l t x : List ℕ) (R : Source S l t x) (w : ℕ) where
  pub kept_reads : is_kept w ≡ true → (line_of S w).tokens ≡ (source_line (listing l t x) w).tokens
  kept_reads k = let p = kept_parts w k in kept_tokens S w p.0 p.1 ∙ R.tokens (piece_at w / 4)

  pub plain_reads : header_at w ≡ 0 → is_plain w ≡ true → (line_of S w).tokens ≡ (source_line (listing l t x) w).tokens
  plain_reads h k = kept_tokens S w h (plain_form w k) ∙ R.tokens (piece_at w / 4)

  pub guard_test : is_plain w ≡ true → test_tokens S (piece_of (piece_at w)) guard ≡ or_else (condition (source_line (listing l t x) w) (ascii "if")) []
  unfolding test_tokens form_of form_tokens condition
  guard_test k = rw (plain_form w k, R.tokens (piece_at w / 4))

-- By the tokens

module _ (l m : Line) (e : l.tokens ≡ m.tokens) where
  pub label_same : is_label l ≡ is_label m
  unfolding is_label
  label_same = rw e

  pub kw_same : (kw : List ℕ) → has_kw l kw ≡ has_kw m kw
  unfolding has_kw
  kw_same kw = rw e

  pub condition_same : (kw : List ℕ) → condition l kw ≡ condition m kw
  unfolding condition
  condition_same kw = rw e

  assignment_same : assignment l ≡ assignment m
  unfolding assignment
  assignment_same = rw e

  pub inits_same : (p : Token → Bool) → inits p l ≡ inits p m
  unfolding inits
  inits_same p = rw (assignment_same, inits)

  pub passes_same : (p : Token → Bool) → passes p l ≡ passes p m
  unfolding passes assignment
  passes_same p = ap (λ ts. passes p (pseudo_line None 0 ts)) e

-- A header starts with a keyword.

glue_first : (t : Token) (us : List Token) → t.kind ≡ Keyword → (get_or (glue t us) 0 no_token).kind ≡ Keyword
unfolding glue
glue_first t [] k = k
glue_first t (u ∷ us) k = go (joins t u)
  where
    go : (b : Bool) → (get_or (cond b (tok (t.text ++ u.text) t.kind ∷ us) (t ∷ (u ∷ us))) 0 no_token).kind ≡ Keyword
    go true = k
    go false = k

merge_first : (t : Token) (ts : List Token) → t.kind ≡ Keyword → (get_or (merge (t ∷ ts)) 0 no_token).kind ≡ Keyword
unfolding merge
merge_first t ts k = glue_first t (merge ts) k

header_first : (S : List Line) (p : Piece) (h : ℕ) (t a z : Piece) → (h ≡ 0 → ⊥) → (get_or (header_tokens S p (header_of h t a z)) 0 no_token).kind ≡ Keyword
unfolding header_of header_tokens while_tokens
header_first S p zero t a z n = absurd (n refl)
header_first S p (suc zero) t a z n = refl
header_first S p (suc (suc zero)) t a z n = merge_first (tok (ascii "while") Keyword) _ refl
header_first S p (suc (suc (suc zero))) t a z n = merge_first (tok (ascii "while") Keyword) _ refl
header_first S p (suc (suc (suc (suc zero)))) t a z n = merge_first (tok (ascii "for") Keyword) _ refl
header_first S p (suc (suc (suc (suc (suc zero))))) t a z n = merge_first (tok (ascii "for") Keyword) _ refl
header_first S p (suc (suc (suc (suc (suc (suc zero)))))) t a z n = merge_first (tok (ascii "for") Keyword) _ refl
header_first S p (suc (suc (suc (suc (suc (suc (suc h))))))) t a z n = merge_first (tok (ascii "for") Keyword) _ refl

keyword_assignment : (l : Line) → (token l 0).kind ≡ Keyword → assignment l ≡ None
unfolding assignment
keyword_assignment l k = rw k (go (leb 2 (length l.tokens)))
  where
    go : (b : Bool) → ◌≡◌ {A = Option Assignment} (require b >>= λ _. None) None
    go true = refl
    go false = refl

by_header : (S : List Line) (w : ℕ) → (header_at w ≡ 0 → ⊥) → (token (line_of S w) 0).kind ≡ Keyword
unfolding planned plan_of
by_header S w n = header_first S (piece_of (piece_at w)) (header_at w) (piece_of (test_at w)) (piece_of (initialiser_at w)) (piece_of (step_at w)) n

module _ (S : List Line) (w : ℕ) (n : header_at w ≡ 0 → ⊥) where
  header_no_assignment : assignment (line_of S w) ≡ None
  header_no_assignment = keyword_assignment (line_of S w) (by_header S w n)

  pub header_inits : (p : Token → Bool) → inits p (line_of S w) ≡ false
  unfolding inits
  header_inits p = rw (header_no_assignment, inits)

  pub header_passes : (p : Token → Bool) → passes p (line_of S w) ≡ false
  unfolding passes
  header_passes p = rw (header_no_assignment, passes)
