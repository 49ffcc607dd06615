-- The body of a goto loop: its words stand for the lines of `with_body`.
--   label_text           the name of a label is the first token's text of its line of C
--   exit_past, exit_none, exit_some    the exit's name by the code's answers
--   close_line           the word of a closing brace
--   moves_lines          the body can move in
--   body_head            the label's word stays
--   body_ahead           no header stands from the label on
--   body_lines           the words stand for `with_body` of the lines
-- Assumes nothing.
use Rattle.std.specs.Prelude.{Option, None, Some, slice_get}
use Prim.Native.Nat.{ℕ, zero, suc, ◌+◌, ◌-◌, ◌*◌, ◌/◌, ◌%◌, ◌≤◌, ◌<◌}
use mathlib.Core.Path.{◌≡◌, refl, sym, ap, ap₂, ◌∙◌}
use mathlib.Core.List.{List, [], ◌∷◌, ◌++◌, map}
use mathlib.Core.Bool.{Bool, true, false, ◌&&◌}
use native.Mathlib.Decide.{dec_le}
use native.Mathlib.Omega.{arith}
use native.Mathlib.Numerals.{add-one}
use borrow.Author.Tests.{eqb-true, ltb-true}
use lib.Dec.{ltb}
use lib.ListN.{length, take, drop, get_or, set, length-take, length-map, get_or-append}
use lib.Seq.{get_or-take, get_or-set_other, length-take-le}
use Rattle.definitions.specs.Lists.{◌>>=◌, require, all, part, on_part}
use Rattle.definitions.specs.Model.{Line, no_token, token, line, no_line}
use Rattle.definitions.specs.Columns.{listing}
use Rattle.definitions.specs.Statements.{is_label, label}
use Rattle.definitions.specs.RecoverGotoLoops.{jump, move_in, closed_at, exit_label, with_body}
use Rattle.loop_theory.proofs.Cases.{and_split, true_false}
use Rattle.loop_theory.proofs.Places.{two_places, length_part, set_second, on_part_between}
use Rattle.plan.specs.Plan.{form_of, form_tokens, indent_at, header_at, piece_at, planned, plan_of, line_of, render}
use Rattle.plan.specs.Changes.{is_line, is_goto, Ahead}
use Rattle.plan.specs.Source.{Source}
use Rattle.plan.proofs.Maps.{map_set, map_on_part, map_all, map_part}
use Rattle.plan.proofs.Rendered.{length_render, line_render, indent_line, kept_line}
use Rattle.loops.proofs.Lists.{all_at, all_from, all_set, all_on_part, all_on_whole}
use Rattle.pieces.specs.Pieces.{piece}
use Rattle.pieces.proofs.Forms.{kept_piece, label_other}
use Rattle.gotos.specs.Body.{jump_form, moves_in, body_word}
use Rattle.gotos.proofs.HeaderLines.{no_header_line, label_header, label_piece}
use Rattle.gotos.proofs.BodyRules.{word_parts, body_line}
use Rattle.goto_turns.specs.Loops.{close_word, jumped_words, body_words}
use Rattle.goto_turns.proofs.Addresses.{bare_render, head_bare, exit_bare}

-- Names

module _ (C : List Line) (w : ℕ) (is : is_label (line_of C w) ≡ true) where
  label_line : header_at w ≡ 0
  label_line = go (dec_le (header_at w) 0)
    where
      go : Dec (header_at w ≤ 0) → header_at w ≡ 0
      go (yes z) = omega arith
      go (no z) = true_false is (sym (label_header C w (header_at w) refl (λ e. omega arith)))

  label_whole : piece_at w % 4 ≡ 0
  label_whole = go (dec_le (piece_at w % 4) 0)
    where
      go : Dec (piece_at w % 4 ≤ 0) → piece_at w % 4 ≡ 0
      go (yes z) = omega arith
      go (no z) = true_false is (sym (label_piece C w (header_at w) refl label_line (piece_at w) false refl (label_other C (piece_at w) (λ e. omega arith))))

  pub label_text : (s : ℕ) → s ≡ piece_at w / 4 → (token (line C s) 0).text ≡ label (line_of C w)
  label_text s e =
      ap (λ k. (token (line C k) 0).text) e
      ∙ sym (ap (λ ts. (get_or ts 0 no_token).text) (no_header_line C w (header_at w) refl label_line ∙ kept_piece C (piece_at w) label_whole))

-- The exit

exit_by : (L : List Line) (b : ℕ) (o : Option Line) → slice_get L (b + 1) ≡ o → exit_label L b ≡ (o >>= λ l. require (is_label l) >>= λ _. Some (label l))
exit_by L b o e = ap (λ o. o >>= λ l. require (is_label l) >>= λ _. Some (label l)) e

some_at : (S : List Line) (ws : List ℕ) (i : ℕ) → i < length ws → slice_get (render S ws) i ≡ Some (line_of S (get_or ws i 0))
some_at S [] i h = absurd (omega arith)
some_at S (w ∷ ws) zero h = refl
some_at S (w ∷ ws) (suc i) h = some_at S ws i (omega arith)

none_at : (L : List Line) (i : ℕ) → length L ≤ i → slice_get L i ≡ None
none_at [] i h = refl
none_at (m ∷ L) zero h = absurd (omega arith)
none_at (m ∷ L) (suc i) h = none_at L i (omega arith)

module _ (C : List Line) (ws : List ℕ) (n b : ℕ) (le : n ≤ length ws) where
  pub exit_past : b + 1 ≡ n → None ≡ exit_label (render C (take n ws)) b
  exit_past h =
      sym (exit_by (render C (take n ws)) b None (none_at (render C (take n ws)) (b + 1) (omega (arith, length_render C (take n ws), length-take-le n ws le))))

  module _ (h : b < n) (k : b + 1 ≡ n → ⊥) (y : Bool) (e : y ≡ is_label (line_of C (get_or ws (b + 1) 0))) where
    exit_here : exit_label (render C (take n ws)) b ≡ (require (is_label (line_of C (get_or ws (b + 1) 0))) >>= λ _. Some (label (line_of C (get_or ws (b + 1) 0))))
    exit_here =
        exit_by (render C (take n ws)) b (Some (line_of C (get_or ws (b + 1) 0)))
        (some_at C (take n ws) (b + 1) (omega (arith, length-take-le n ws le)) ∙ ap (λ w. Some (line_of C w)) (get_or-take n ws (b + 1) 0 (omega arith)))

    pub exit_none : y ≡ false → None ≡ exit_label (render C (take n ws)) b
    exit_none f = sym (exit_here ∙ rw (← e, f))

    pub exit_some : y ≡ true → (s : ℕ) → s ≡ piece_at (get_or ws (b + 1) 0) / 4 → (x : List ℕ) → x ≡ (token (line C s) 0).text → Some x ≡ exit_label (render C (take n ws)) b
    exit_some f s d x g = sym (exit_here ∙ rw (← e, f) (ap Some (sym (g ∙ label_text C (get_or ws (b + 1) 0) (sym e ∙ f) s d))))

pub ruleset exits = (exit_past, exit_none, exit_some)

-- Words

pub close_line : (S : List Line) (w d : ℕ) → d < 256 → line_of S (close_word w d) ≡ closed_at (line_of S w) d
unfolding planned plan_of form_of form_tokens
close_line S w d h =
    let p = piece_at w / 4 in
    let u = word_parts d (3 + 4 * p) h (omega arith) in
    let s : (3 + 4 * p) / 4 ≡ p = omega arith in
    let f : (3 + 4 * p) % 4 ≡ 3 = omega arith in
    kept_line S (close_word w d) u.0 ∙ rw (u.1, u.2, s, f)

line_goto : (w : ℕ) → is_line w ≡ true → is_goto w ≡ true
line_goto w e = rw e

no_header : (i p : ℕ) → i < 256 → is_line (i + 2048 * p) ≡ true
no_header i p h =
    let a : (i + 2048 * p) / 256 ≡ 8 * p = omega arith in
    let z : 8 * p % 8 ≡ 0 = omega arith in
    rw (a, z)

body_header : (C : List Line) (g : List ℕ) (o : Option (List ℕ)) (w : ℕ) → moves_in w ≡ true → is_line (body_word C g o w) ≡ true
unfolding body_word
body_header C g o w h = no_header (indent_at w + 1) (piece_at w + jump_form g o (piece C (piece_at w))) (omega (arith, ltb-true (indent_at w) 255 h))

-- Lists

set_on_part : {A : Type 0} (d : A) (f : A → A) (v : A) (h b : ℕ) (xs : List A) → h < b → b < length xs
    → set (on_part (h + 1) b f xs) b v ≡ on_part (h + 1) b f (set xs b v)
set_on_part d f v h b xs hb bl =
    let p = take h xs in
    let q = part (suc h) b xs in
    let r = drop (suc b) xs in
    let lp : length p ≡ h = length-take-le h xs (omega arith) in
    let lq : length q ≡ b - suc h = length_part (suc h) b xs (omega arith) in
    let parts = two_places d h b xs hb bl in
    ap (λ ys. set (on_part (h + 1) b f ys) b v) parts
    ∙ (ap (λ ys. set ys b v) (on_part_between f p q (get_or xs b d ∷ r) (get_or xs h d) h b lp (omega arith))
    ∙ (set_second p (map f q) r (get_or xs h d) (get_or xs b d) v b (omega (arith, length-map q f))
    ∙ sym (ap (λ ys. on_part (h + 1) b f (set ys b v)) parts
    ∙ (ap (on_part (h + 1) b f) (set_second p q r (get_or xs h d) (get_or xs b d) v b (omega arith))
    ∙ on_part_between f p q (v ∷ r) (get_or xs h d) h b lp (omega arith)))))

module _ {A : Type 0} (P Q : A → Bool) where
  all_first : (k : ℕ) (ys : List A) → all P ys ≡ true → all Q (take k ys) ≡ true → all (λ y. P y && Q y) (take k ys) ≡ true
  unfolding all
  all_first zero ys p q = refl
  all_first (suc k) [] p q = refl
  all_first (suc k) (y ∷ ys) p q =
      let u = and_split (P y) (all P ys) p in
      let v = and_split (Q y) (all Q (take k ys)) q in
      rw (u.0, v.0) (all_first k ys u.1 v.1)

  all_both : (a e : ℕ) (xs : List A) → all P (drop a xs) ≡ true → all Q (part a e xs) ≡ true → all (λ y. P y && Q y) (part a e xs) ≡ true
  all_both a e xs = all_first (e - a) (drop a xs)

all_back : {A : Type 0} (P : A → Bool) (d : A) (h : ℕ) (xs : List A) → P (get_or xs h d) ≡ true → all P (drop (h + 1) xs) ≡ true → all P (drop h xs) ≡ true
all_back P d h xs e f = go h xs e (simp add-one at f)
  where
    go : (h : ℕ) (ys : List _) → P (get_or ys h d) ≡ true → all P (drop (suc h) ys) ≡ true → all P (drop h ys) ≡ true
    go zero [] e f = f
    go (suc h) [] e f = f
    go zero (y ∷ ys) e f = unfold all in rw e f
    go (suc h) (y ∷ ys) e f = go h ys e f

-- The body

module _ (l t x : List ℕ) (ws : List ℕ) (h b : ℕ) (hb : h < b) (bl : b < length ws) (ahead : Ahead h ws) (room : indent_at (get_or ws h 0) < 255)
    (moves : all moves_in (part (h + 1) b ws) ≡ true) where
  abbrev C : List Line
  C = listing l t x

  abbrev name : List ℕ
  name = label (line (render C ws) h)

  abbrev out : Option (List ℕ)
  out = exit_label (render C ws) b

  abbrev closing : ℕ
  closing = close_word (get_or ws b 0) (indent_at (get_or ws h 0) + 1)

  closing_header : is_line closing ≡ true
  closing_header = no_header (indent_at (get_or ws h 0) + 1) (3 + 4 * (piece_at (get_or ws b 0) / 4)) (omega arith)

  pub body_head : get_or (body_words C ws h b) h 0 ≡ get_or ws h 0
  unfolding body_words jumped_words
  body_head =
      get_or-set_other (on_part (h + 1) b (body_word C name out) ws) b h closing 0 (λ e. omega arith)
      ∙ (get_or-append (take (h + 1) ws) (map (body_word C name out) (part (h + 1) b ws) ++ drop b ws) 0 h (rw length-take (omega arith))
      ∙ get_or-take (h + 1) ws h 0 (omega arith))

  body_goto : all is_goto (body_words C ws h b) ≡ true
  unfolding body_words jumped_words
  body_goto =
      all_set is_goto 0 b closing (on_part (h + 1) b (body_word C name out) ws) (line_goto closing closing_header)
      (all_on_whole is_goto moves_in (body_word C name out) (λ w m _. line_goto (body_word C name out w) (body_header C name out w m))
      (h + 1) b ws (omega arith) moves ahead.words)

  body_behind : all is_line (drop (h + 1) (body_words C ws h b)) ≡ true
  unfolding body_words jumped_words
  body_behind =
      all_set is_line (h + 1) b closing (on_part (h + 1) b (body_word C name out) ws) closing_header
      (all_on_part is_line moves_in (body_word C name out) (λ w m _. body_header C name out w m) h (h + 1) b ws (omega arith) moves ahead.lines (omega arith))

  pub body_ahead : Ahead h (body_words C ws h b)
  body_ahead =
      record {
        words = body_goto;
        lines = all_back is_line 0 h (body_words C ws h b) (ap is_line body_head ∙ all_at is_line 0 h h ws ahead.lines (omega arith) (omega arith)) body_behind;
      }

  -- what they stand for
  module _ (S : List Line) (R : Source S l t x) where
    abbrev L : List Line
    L = render S ws

    abbrev f : Line → Line
    f m = move_in (jump (label (line L h)) (exit_label L b) m)

    word_line : (w : ℕ) → (is_line w && moves_in w) ≡ true → line_of S (body_word C name out w) ≡ f (line_of S w)
    word_line w e =
        let u = and_split (is_line w) (moves_in w) e in
        let same = bare_render S l t x R ws in
        body_line l t x S R name out w (eqb-true (header_at w) 0 u.0) (ltb-true (indent_at w) 255 u.1)
        ∙ ap₂ (λ g o. move_in (jump g o (line_of S w))) (sym (head_bare L (render C ws) same h)) (sym (exit_bare L (render C ws) same b))

    closing_is : line_of S closing ≡ closed_at (line L b) ((line L h).indent + 1)
    closing_is =
        close_line S (get_or ws b 0) (indent_at (get_or ws h 0) + 1) (omega arith)
        ∙ ap₂ (λ m d. closed_at m (d + 1)) (sym (line_render S ws b bl))
        (sym (ap (λ m. m.indent) (line_render S ws h (let z : h < length ws = omega arith in z)) ∙ indent_line S (get_or ws h 0)))

    pub body_lines : render S (body_words C ws h b) ≡ with_body L h b
    unfolding body_words jumped_words
    body_lines =
        map_set (line_of S) b closing (on_part (h + 1) b (body_word C name out) ws)
        ∙ (ap₂ (λ K m. set K b m)
        (map_on_part (line_of S) (λ w. is_line w && moves_in w) (body_word C name out) f word_line (h + 1) b ws
        (all_both is_line moves_in (h + 1) b ws (all_from is_line h (h + 1) ws ahead.lines (omega arith)) moves)) closing_is
        ∙ set_on_part no_line f (closed_at (line L b) ((line L h).indent + 1)) h b L hb (omega (arith, length_render S ws)))

-- The body can move in

moves_same : (S : List Line) (vs : List ℕ) → all (λ w. ltb (line_of S w).indent 255) vs ≡ all moves_in vs
unfolding all
moves_same S [] = refl
moves_same S (v ∷ vs) = ap₂ ◌&&◌ (ap (λ i. ltb i 255) (indent_line S v)) (moves_same S vs)

pub moves_lines : (S : List Line) (ws : List ℕ) (a e : ℕ) → all (λ l. ltb l.indent 255) (part a e (render S ws)) ≡ all moves_in (part a e ws)
moves_lines S ws a e =
    ap (all (λ l. ltb l.indent 255)) (sym (map_part (line_of S) a e ws))
    ∙ (map_all (line_of S) (λ l. ltb l.indent 255) (part a e ws) ∙ moves_same S (part a e ws))
