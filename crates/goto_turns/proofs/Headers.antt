-- The header of a goto loop: the words with it stand for the lines of `with_header`.
--   tested_lines         whether a leading test stands behind the label, by the code's answer
--   headed_header        the header's word is a while over 1 or over a leading test
--   headed_ahead         no other header stands from it on
--   headed_lines         the words stand for `with_header` of the lines
-- Assumes nothing.
use Rattle.std.specs.Prelude.{Option, None, Some}
use Prim.Native.Nat.{ℕ, zero, suc, ◌+◌, ◌*◌, ◌/◌, ◌%◌, ◌≤◌, ◌<◌}
use mathlib.Core.Path.{◌≡◌, refl, sym, ap, ap₂, ◌∙◌}
use mathlib.Core.List.{List, [], ◌∷◌, ◌++◌}
use mathlib.Core.Bool.{Bool, true, false, cond, ◌||◌}
use native.Mathlib.Omega.{arith}
use native.Mathlib.Numerals.{add-one}
use borrow.Author.Tests.{eqb-true}
use lib.Dec.{eqb, leb}
use lib.ListN.{length, take, drop, get_or, set}
use lib.Seq.{get_or-set_same, drop-set-lt}
use Rattle.definitions.specs.Lists.{is_some, or_else, all, remove}
use Rattle.definitions.specs.Model.{Token, Line, pseudo_line, line}
use Rattle.definitions.specs.Columns.{listing}
use Rattle.definitions.specs.Statements.{merge}
use Rattle.definitions.specs.Passes.{while_head}
use Rattle.definitions.specs.RecoverGotoLoops.{leading_test, one}
use Rattle.loop_theory.proofs.Cases.{true_false}
use Rattle.plan.specs.Plan.{indent_at, header_at, piece_at, line_of, render}
use Rattle.plan.specs.Changes.{is_line, is_goto, Ahead}
use Rattle.plan.specs.Source.{Source}
use Rattle.plan.proofs.Maps.{map_set, map_remove}
use Rattle.plan.proofs.Rendered.{line_render, indent_line}
use Rattle.loops.proofs.Lists.{all_at, all_from, all_set, all_remove}
use Rattle.pieces.specs.Pieces.{piece}
use Rattle.gotos.specs.Headed.{head_word, headed_words}
use Rattle.gotos.proofs.HeadedRules.{leads_by, head_line_always, head_line_leading}
use Rattle.goto_turns.specs.Loops.{with_header}
use Rattle.goto_turns.proofs.Addresses.{bare_line, leading_bare}

-- Lists

module _ {A : Type 0} where
  set_remove : (h : ℕ) (v : A) (xs : List A) → remove (h + 1) (set xs h v) ≡ set (remove (h + 1) xs) h v
  set_remove h v xs = simp add-one (go h xs)
    where
      go : (h : ℕ) (ys : List A) → take (suc h) (set ys h v) ++ drop (suc (suc h)) (set ys h v) ≡ set (take (suc h) ys ++ drop (suc (suc h)) ys) h v
      go zero [] = refl
      go (suc h) [] = refl
      go zero (y ∷ []) = refl
      go zero (y ∷ (z ∷ ys)) = refl
      go (suc h) (y ∷ ys) = ap (λ zs. y ∷ zs) (go h ys)

  get_remove : (d : A) (h : ℕ) (xs : List A) → get_or (remove (h + 1) xs) h d ≡ get_or xs h d
  get_remove d h xs = simp add-one (go h xs)
    where
      go : (h : ℕ) (ys : List A) → get_or (take (suc h) ys ++ drop (suc (suc h)) ys) h d ≡ get_or ys h d
      go zero [] = refl
      go (suc h) [] = refl
      go zero (y ∷ ys) = refl
      go (suc h) (y ∷ ys) = go h ys

-- Words

head_form : (v k t : ℕ) → indent_at v < 255 → k < 8 → header_at (head_word v k t) ≡ k
unfolding head_word
head_form v k t h b =
    let p = piece_at v + 4096 * t in
    let a : (indent_at v + 1 + 256 * (k + 8 * p)) / 256 ≡ k + 8 * p = omega arith in
    let z : (k + 8 * p) % 8 ≡ k = omega arith in
    rw (a, z)

head_goto : (w : ℕ) → header_at w / 2 ≡ 1 → is_goto w ≡ true
head_goto w h = go (header_at w) (omega arith) (omega arith)
  where
    go : (k : ℕ) → 2 ≤ k → k ≤ 3 → (eqb k 0 || leb 2 (k % 4)) ≡ true
    go zero a b = absurd (omega arith)
    go (suc zero) a b = absurd (omega arith)
    go (suc (suc zero)) a b = refl
    go (suc (suc (suc zero))) a b = refl
    go (suc (suc (suc (suc k)))) a b = absurd (omega arith)

module _ (ws : List ℕ) (h : ℕ) (lt : h + 1 < length ws) (ahead : Ahead h ws) (room : indent_at (get_or ws h 0) < 255) where
  abbrev v : ℕ
  v = get_or ws h 0

  abbrev u : ℕ
  u = get_or ws (h + 1) 0

  kept_at : (j : ℕ) → h ≤ j → j < length ws → header_at (get_or ws j 0) ≡ 0
  kept_at j a b = eqb-true (header_at (get_or ws j 0)) 0 (all_at is_line 0 h j ws ahead.lines a b)

  head_test : header_at (head_word v 3 (piece_at u)) / 2 ≡ 1
  head_test = rw (head_form v 3 (piece_at u) room (omega arith))

  head_one : header_at (head_word v 2 0) / 2 ≡ 1
  head_one = rw (head_form v 2 0 room (omega arith))

  pub headed_header : (y : Bool) → header_at (get_or (headed_words y h ws) h 0) / 2 ≡ 1
  unfolding headed_words
  headed_header true =
      let w = head_word v 3 (piece_at u) in
      ap (λ z. header_at z / 2) (get_remove 0 h (set ws h w) ∙ get_or-set_same ws h w 0 (omega arith)) ∙ head_test
  headed_header false = let w = head_word v 2 0 in ap (λ z. header_at z / 2) (get_or-set_same ws h w 0 (omega arith)) ∙ head_one

  behind : (w : ℕ) → all is_line (drop (h + 1) (set ws h w)) ≡ true
  behind w = rw (drop-set-lt (h + 1) ws h w (omega arith)) (all_from is_line h (h + 1) ws ahead.lines (omega arith))

  pub headed_ahead : (y : Bool) → Ahead (h + 1) (headed_words y h ws)
  unfolding headed_words
  headed_ahead true =
      let w = head_word v 3 (piece_at u) in
      record {
        words = all_remove is_goto 0 (h + 1) (set ws h w) (all_set is_goto 0 h w ws (head_goto w head_test) ahead.words);
        lines = all_remove is_line (h + 1) (h + 1) (set ws h w) (behind w);
      }
  headed_ahead false =
      let w = head_word v 2 0 in
      record { words = all_set is_goto 0 h w ws (head_goto w head_one) ahead.words; lines = behind w }

  -- The lines

  module _ (S : List Line) (l t x : List ℕ) (R : Source S l t x) where
    abbrev M : List Line
    M = render S ws

    abbrev d : ℕ
    d = indent_at v + 1

    test_word : leading_test (line M (h + 1)) d ≡ leading_test (line_of S u) d
    test_word = ap (λ m. leading_test m d) (line_render S ws (h + 1) lt)

    pub tested_lines : (y : Bool) → y ≡ is_some (leading_test (line_of (listing l t x) u) d) → is_some (leading_test (line M (h + 1)) d) ≡ y
    tested_lines y e = ap is_some (test_word ∙ leading_bare (line_of S u) (line_of (listing l t x) u) (bare_line S l t x R u) d) ∙ sym e

    header_line : (c : List Token) (w : ℕ) → line_of S w ≡ pseudo_line (line_of S v).address ((line_of S v).indent + 1) (merge (while_head c))
        → line_of S w ≡ pseudo_line (line M h).address d (merge (while_head c))
    header_line c w e =
        e ∙ ap₂ (λ m i. pseudo_line m.address (i + 1) (merge (while_head c))) (sym (line_render S ws h (omega arith))) (indent_line S v)

    -- a leading test of the line behind the label is that of its piece
    test_piece : (o : Option (List Token)) → leading_test (line M (h + 1)) d ≡ o → is_some o ≡ true → leading_test (piece S (piece_at u)) 0 ≡ o
    test_piece o e is = go (eqb (indent_at u) (d + 1)) (sym e ∙ (test_word ∙ leads_by S u d (indent_at u) (kept_at (h + 1) (omega arith) lt) refl))
      where
        go : (b : Bool) → o ≡ cond b (leading_test (piece S (piece_at u)) 0) None → leading_test (piece S (piece_at u)) 0 ≡ o
        go true q = sym q
        go false q = true_false is (ap is_some q)

    pub headed_lines : (y : Bool) → is_some (leading_test (line M (h + 1)) d) ≡ y → render S (headed_words y h ws) ≡ with_header M h d
    unfolding headed_words with_header
    headed_lines true e =
        let w = head_word v 3 (piece_at u) in
        let o = leading_test (line M (h + 1)) d in
        let made = head_line_leading S v (kept_at h (omega arith) (omega arith)) room (piece_at u) (omega arith) in
        map_remove (line_of S) (h + 1) (set ws h w)
        ∙ (ap (remove (h + 1)) (map_set (line_of S) h w ws
        ∙ ap (set M h) (header_line (or_else (leading_test (piece S (piece_at u)) 0) one) w made
        ∙ ap (λ o. pseudo_line (line M h).address d (merge (while_head (or_else o one)))) (test_piece o refl e)))
        ∙ (set_remove h (pseudo_line (line M h).address d (merge (while_head (or_else o one)))) M
        ∙ ap (λ c. set (cond c (remove (h + 1) M) M) h (pseudo_line (line M h).address d (merge (while_head (or_else o one))))) (sym e)))
    headed_lines false e =
        let w = head_word v 2 0 in
        map_set (line_of S) h w ws
        ∙ (ap (set M h) (header_line one w (head_line_always S v (kept_at h (omega arith) (omega arith)) room))
        ∙ go (leading_test (line M (h + 1)) d) e)
      where
        go : (o : Option (List Token)) → is_some o ≡ false
            → set M h (pseudo_line (line M h).address d (merge (while_head one)))
            ≡ set (cond (is_some o) (remove (h + 1) M) M) h (pseudo_line (line M h).address d (merge (while_head (or_else o one))))
        go None q = refl
        go (Some c) q = true_false refl q
