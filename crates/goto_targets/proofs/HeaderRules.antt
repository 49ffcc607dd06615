-- The targets of pieces and of headers, as rules for `search`.
--   popped_kept, popped_cut, popped_other, cut_fits    a piece without its last code point
--   condition_none, condition_some           the condition of a leading test
--   over_test, over_one                      the condition of a header
--   while_target, for_target                 the line of a header
--   piece_none, piece_some                   the target of a piece
--   line_target, line_here, no_line, header_kind    the line of a word
-- Assumes nothing.
use Rattle.std.specs.Prelude.{Option, None, Some}
use mathlib.Core.Logic.{◌⊎◌, inl, inr}
use mathlib.Core.Path.{◌≡◌, refl, sym, ap, ◌∙◌}
use mathlib.Core.Bool.{Bool, true, false}
use mathlib.Core.List.{List}
use Prim.Native.Nat.{ℕ, ◌/◌, ◌%◌, ◌≤◌, ◌<◌}
use native.Mathlib.Nat.{sub-zero}
use native.Mathlib.Decide.{dec_le}
use native.Mathlib.Omega.{arith}
use borrow.Author.Tests.{eq-eqb, eqb-true, eqb-false, ne_eqb, leb-true}
use lib.ListN.{length, take}
use Rattle.definitions.specs.Lists.{or_else, part, ◌≟◌, ascii}
use Rattle.definitions.specs.Model.{Line, token, line}
use Rattle.definitions.specs.Statements.{is_kw, goto_target}
use Rattle.definitions.specs.ToFor.{popped}
use Rattle.definitions.specs.RecoverGotoLoops.{leading_test, one}
use Rattle.plan.specs.Plan.{piece_of, test_tokens, while_tokens, header_tokens, header_of, planned, plan_of, header_at, piece_at, test_at, initialiser_at, step_at, line_of}
use Rattle.plan.specs.Changes.{is_line, is_goto}
use Rattle.negate.specs.Tests.{test}
use Rattle.pseudo_opt.specs.Places.{text_at}
use Rattle.pieces.specs.Pieces.{piece, origin, cut_place, Says}
use Rattle.pieces.specs.declared.piece.Piece.{Piece}
use Rattle.pieces.specs.declared.piece.Piece.TheVariants.{Kept, Continued, Broken, Closed}
use Rattle.pieces.specs.Leading.{leading}
use Rattle.pieces.proofs.Forms.{kept_piece, continued_piece, broken_piece, closed_piece, place_within}
use Rattle.goto_targets.specs.Seek.{Seek, Seek.looking, seek, target}
use Rattle.goto_targets.specs.Conditions.{over}
use Rattle.goto_targets.proofs.SeekLaws.{target_is, seek_negate, seek_one, seek_while, seek_for, popped_jumped, popped_closed}

-- A piece without its last code point

pub cut_fits : (l : Line) (g : ℕ) → g ≡ cut_place l → g ≤ length l.tokens
unfolding cut_place
cut_fits l g e = omega (arith, place_within (is_kw (ascii "goto")) l.tokens)

module _ (C : List Line) (p i : ℕ) (s : Seek) where
  pub popped_kept : Says p (Kept i) → (r : Seek) → r ≡ seek s (popped (line C i).tokens) → r ≡ seek s (popped (piece C p).tokens)
  popped_kept y r q = rw y.line at q ∙ ap (λ ts. seek s (popped ts)) (sym (kept_piece C p y.form))

  module _ (g : ℕ) (c : g ≡ cut_place (line C i)) (r : Seek) (q : r ≡ seek s (part 0 g (line C i).tokens)) where
    before : r ≡ seek s (take (cut_place (line C i)) (line C i).tokens)
    before = q ∙ ap (λ m. seek s (take m (line C i).tokens)) (sub-zero g ∙ c)

    popped_continued : Says p (Continued i) → r ≡ seek s (popped (piece C p).tokens)
    popped_continued y = rw y.line at before ∙ sym (ap (λ ts. seek s (popped ts)) (continued_piece C p y.form) ∙ popped_jumped s (take (cut_place (origin C p)) (origin C p).tokens) (ascii "continue") (unfold ◌≟◌ in refl))

    popped_broken : Says p (Broken i) → r ≡ seek s (popped (piece C p).tokens)
    popped_broken y = rw y.line at before ∙ sym (ap (λ ts. seek s (popped ts)) (broken_piece C p y.form) ∙ popped_jumped s (take (cut_place (origin C p)) (origin C p).tokens) (ascii "break") (unfold ◌≟◌ in refl))

    pub popped_cut : (y : Piece) → Says p y → (y ≡ Continued i) ⊎ (y ≡ Broken i) → r ≡ seek s (popped (piece C p).tokens)
    popped_cut y z (inl e) = popped_continued (rw e at z)
    popped_cut y z (inr e) = popped_broken (rw e at z)

  pub popped_other : Says p (Closed i) → s ≡ seek s (popped (piece C p).tokens)
  popped_other y = sym (ap (λ ts. seek s (popped ts)) (closed_piece C p y.form) ∙ popped_closed s)

pub ruleset pops = (cut_fits, popped_kept, popped_cut, popped_other)

-- Conditions

module _ (C : List Line) (p : ℕ) (s : Seek) (f : Option ℕ) (e : leading (origin C p) f ≡ leading_test (piece C p) 0) where
  pub condition_none : f ≡ None → s ≡ seek s (or_else (leading_test (piece C p) 0) one)
  condition_none q = sym (rw (← e, q) (seek_one s))

  pub condition_some : (g : ℕ) → f ≡ Some g → (i : ℕ) → i ≡ p / 4 → (r : Seek) → r ≡ seek s (test (line C i) g) → r ≡ seek s (or_else (leading_test (piece C p) 0) one)
  condition_some g q i y r x = rw y at x ∙ sym (rw (← e, q) (seek_negate s (test (origin C p) g)))

module _ (C : List Line) (k t : ℕ) (s : Seek) where
  pub over_test : k % 2 ≡ 1 → (r : Seek) → r ≡ seek s (or_else (leading_test (piece C t) 0) one) → r ≡ seek s (over C k t)
  over_test e r q = rw (eq-eqb (k % 2) 1 e) q

  pub over_one : (k % 2 ≡ 1 → ⊥) → s ≡ seek s (over C k t)
  over_one e = rw (ne_eqb (k % 2) 1 e) (sym (seek_one s))

pub ruleset conditions = (condition_none, condition_some, over_test, over_one)

-- Headers

pub header_kind : (w : ℕ) → is_goto w ≡ true → (header_at w ≡ 0 → ⊥) → 2 ≤ header_at w % 4
header_kind w e h = leb-true 2 (header_at w % 4) (rw (ne_eqb (header_at w) 0 h) at e)

module _ (C : List Line) (w k : ℕ) (q : k ≡ header_at w) where
  tokens_of : (line_of C w).tokens ≡ header_tokens C (piece_of (piece_at w)) (header_of k (piece_of (test_at w)) (piece_of (initialiser_at w)) (piece_of (step_at w)))
  unfolding planned plan_of
  tokens_of = rw q

  module _ (g : is_goto w ≡ true) (h : header_at w ≡ 0 → ⊥) (t : ℕ) (d : t ≡ test_at w) where
    pub while_target : k < 4 → (r : Seek) → r ≡ seek looking (over C k t) → (o : Option (List ℕ)) → o ≡ target r → o ≡ goto_target (line_of C w)
    unfolding header_tokens header_of while_tokens test_tokens
    while_target lt r e o z =
        z ∙ sym (target_is (line_of C w) ∙ ap (λ ts. target (seek looking ts)) tokens_of ∙ ap target (go (dec_le k 2) ∙ sym e))
      where
        go : Dec (k ≤ 2) → seek looking (header_tokens C (piece_of (piece_at w)) (header_of k (piece_of (test_at w)) (piece_of (initialiser_at w)) (piece_of (step_at w)))) ≡ seek looking (over C k t)
        go (yes f) = let z : k ≡ 2 = omega (arith, header_kind w g h) in rw z (seek_while looking one)
        go (no f) = let z : k ≡ 3 = omega (arith, header_kind w g h) in rw (z, d) (seek_while looking (or_else (leading_test (piece C (test_at w)) 0) one))

    pub for_target : 4 ≤ k → k < 8 → (a : Seek) (i : ℕ) → i ≡ initialiser_at w → a ≡ seek looking (popped (piece C i).tokens) → (c : Seek) → c ≡ seek a (over C k t)
        → (y : ℕ) → y ≡ step_at w → (r : Seek) → r ≡ seek c (popped (piece C y).tokens) → (o : Option (List ℕ)) → o ≡ target r → o ≡ goto_target (line_of C w)
    unfolding header_tokens header_of test_tokens
    for_target le lt a i ei ea c ec y ey r er o z =
        z ∙ sym (target_is (line_of C w) ∙ ap (λ ts. target (seek looking ts)) tokens_of ∙ ap target (go (dec_le k 6)))
      where
        last : r ≡ seek (seek (seek looking (popped (piece C (initialiser_at w)).tokens)) (over C k (test_at w))) (popped (piece C (step_at w)).tokens)
        last = er ∙ rw (ec, ea, ei, ey, d)

        go : Dec (k ≤ 6) → seek looking (header_tokens C (piece_of (piece_at w)) (header_of k (piece_of (test_at w)) (piece_of (initialiser_at w)) (piece_of (step_at w)))) ≡ r
        go (yes f) = let z : k ≡ 6 = omega (arith, header_kind w g h) in sym (last ∙ rw z (sym (seek_for looking (piece C (initialiser_at w)).tokens one (piece C (step_at w)).tokens)))
        go (no f) = let z : k ≡ 7 = omega (arith, header_kind w g h) in sym (last ∙ rw z (sym (seek_for looking (piece C (initialiser_at w)).tokens (or_else (leading_test (piece C (test_at w)) 0) one) (piece C (step_at w)).tokens)))

  pub line_target : k ≡ 0 → (p : ℕ) → p ≡ piece_at w → (o : Option (List ℕ)) → o ≡ goto_target (piece C p) → o ≡ goto_target (line_of C w)
  unfolding goto_target header_tokens header_of
  line_target e p d o f =
      let z : (line_of C w).tokens ≡ (piece C p).tokens = tokens_of ∙ rw (e, d) in
      f ∙ rw z

pub ruleset headers = (while_target, for_target)

module _ (w : ℕ) (b : Bool) (q : b ≡ is_line w) where
  pub line_here : b ≡ true → (C : List Line) (p : ℕ) → p ≡ piece_at w → (o : Option (List ℕ)) → o ≡ goto_target (piece C p) → o ≡ goto_target (line_of C w)
  line_here f C p d o e = line_target C w (header_at w) refl (eqb-true (header_at w) 0 (sym q ∙ f)) p d o e

  pub no_line : b ≡ false → header_at w ≡ 0 → ⊥
  no_line f = eqb-false (header_at w) 0 (sym q ∙ f)

-- Pieces

module _ (C : List Line) (p : ℕ) (f : Option ℕ) (e : text_at (origin C p) f ≡ goto_target (piece C p)) where
  pub piece_none : f ≡ None → None ≡ goto_target (piece C p)
  piece_none q = rw (← e, q)

  pub piece_some : (j : ℕ) → f ≡ Some j → (i : ℕ) → i ≡ p / 4 → (x : List ℕ) → x ≡ (token (line C i) j).text → Some x ≡ goto_target (piece C p)
  piece_some j q i y x z = ap Some (rw y at z) ∙ (rw q at e)

pub ruleset targets = (piece_none, piece_some, line_here, no_line)

pub ruleset targeting = (pops, conditions, headers, targets)
