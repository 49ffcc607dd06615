-- What the marks of lines say: a line of clean tokens holds no goto, and no token cut from them is one.
--   marked_none, marked_unknown, marked_goto, marked_symbol    the marks of a line
--   clean_seek        a search through clean tokens finds no goto
--   clean_popped, clean_over    nor does one through what a header takes from a clean piece
--   quiet_clean       a quiet piece is clean
-- Assumes nothing.
use Rattle.std.specs.Prelude.{Option, None, Some}
use Rattle.std.specs.Option.{option_map}
use mathlib.Core.Path.{◌≡◌, refl, sym, subst, ◌∙◌}
use mathlib.Core.Bool.{Bool, true, false, cond, not, ◌&&◌}
use mathlib.Core.List.{List, [], ◌∷◌, ◌++◌, reverse, reverse-cons}
use Prim.Native.Nat.{ℕ, zero, suc, ◌+◌, ◌-◌, ◌/◌, ◌%◌, ◌≤◌, ◌<◌}
use native.Mathlib.Decide.{dec_le, dec_lt}
use native.Mathlib.Omega.{arith}
use borrow.Author.Tests.{eq-eqb, ne_eqb}
use lib.Dec.{eqb, leb, ltb}
use lib.ListN.{length, get_or, take, drop, take-append-drop}
use Rattle.definitions.specs.Lists.{or_else, require, any, all, position, take_while, first, last, part, contains, on_first, on_last, ◌≟◌, starts_with, ends_with, ascii}
use Rattle.definitions.specs.Model.{Token, Line, tok, no_token, token, Keyword, Punct}
use Rattle.definitions.specs.Columns.{listing}
use Rattle.definitions.specs.Statements.{is_kw, is_empty, first_symbol, goto_target}
use Rattle.definitions.specs.Condition.{cut_front, cut_end, cut}
use Rattle.definitions.specs.ToFor.{pop_reversed, pop, popped}
use Rattle.definitions.specs.RecoverGotoLoops.{is_leading_test, leading_test, one}
use Rattle.model.proofs.Decode.{line_past}
use Rattle.loop_theory.proofs.Cases.{true_false, false_unless, and_split, none_some, some_same, if_has, IfSome, do_has, ≟_true}
use Rattle.loop_theory.proofs.AnyAll.{none_append, none_split, all_cons, all_nil, all_append, all_halves, all_filter, all_on_first, all_on_last}
use Rattle.pieces.specs.Pieces.{piece, origin, cut_place}
use Rattle.pieces.proofs.Forms.{place_before, kept_piece, continued_piece, broken_piece, closed_piece}
use Rattle.goto_targets.specs.Seek.{Seek.looking, step, seek}
use Rattle.enters.specs.Marks.{has_g, clean, before, Mark, Marked, quiet}
use Rattle.goto_targets.proofs.SeekLaws.{seek_negate, seek_one}

-- Clean tokens

clean_kw : (t : Token) → clean t ≡ true → is_kw (ascii "goto") t ≡ false
clean_kw t h = go (eqb t.kind Keyword) h
  where
    go : (k : Bool) → not (k && contains 103 t.text) ≡ true → (k && (t.text ≟ ascii "goto")) ≡ false
    go false h = refl
    go true h = false_unless (t.text ≟ ascii "goto") λ e.
        true_false (subst (λ s. not (contains 103 s) ≡ true) (≟_true t.text (ascii "goto") e) h) (unfold any in refl)

pub clean_seek : (ts : List Token) → all clean ts ≡ true → seek looking ts ≡ looking
unfolding seek step
clean_seek [] h = refl
clean_seek (t ∷ ts) h = let s = all_cons clean t ts h in rw (clean_kw t s.0) (clean_seek ts s.1)

-- Marks

-- 0 where the tokens ts are clean, 1 where the first that is not is goto, else 2
unfoldable mark_of : List Token → ℕ
mark_of [] = 0
mark_of (t ∷ ts) = let later = mark_of ts in cond (has_g t) (cond (t.text ≟ ascii "goto") 1 2) later

abbrev marked : List Token → Option ℕ → ℕ
marked ts None = 0
marked ts (Some k) = cond ((get_or ts k no_token).text ≟ ascii "goto") 1 2

mark_place : (ts : List Token) → mark_of ts ≡ marked ts (position has_g ts)
unfolding mark_of position
mark_place [] = refl
mark_place (t ∷ ts) = go (has_g t) (position has_g ts) (mark_place ts)
  where
    go : (b : Bool) (o : Option ℕ) → mark_of ts ≡ marked ts o
        → cond b (cond (t.text ≟ ascii "goto") 1 2) (mark_of ts) ≡ marked (t ∷ ts) (cond b (Some 0) (option_map suc o))
    go true o e = refl
    go false None e = e
    go false (Some k) e = e

never_zero : (s : List ℕ) → ◌≡◌ {A = ℕ} (cond (s ≟ ascii "goto") 1 2) 0 → ⊥
never_zero s e = go (s ≟ ascii "goto") e
  where
    go : (b : Bool) → ◌≡◌ {A = ℕ} (cond b 1 2) 0 → ⊥
    go true e = omega arith
    go false e = omega arith

clean_line : (ts : List Token) → mark_of ts ≡ 0 → all clean ts ≡ true
unfolding mark_of all
clean_line [] e = refl
clean_line (t ∷ ts) e = go (has_g t) (clean_line ts) e
  where
    go : (b : Bool) → (mark_of ts ≡ 0 → all clean ts ≡ true) → cond b (cond (t.text ≟ ascii "goto") 1 2) (mark_of ts) ≡ 0 → (not b && all clean ts) ≡ true
    go true f e = absurd (never_zero t.text e)
    go false f e = f e

clean_before : (ts : List Token) → ltb (mark_of ts) 2 ≡ true → all clean (before ts) ≡ true
unfolding mark_of all take_while
clean_before [] e = refl
clean_before (t ∷ ts) e = go (eqb t.kind Keyword) (contains 103 t.text) (t.text ≟ ascii "goto") (clean_before ts) e refl refl
  where
    go : (k g z : Bool) → (ltb (mark_of ts) 2 ≡ true → all clean (before ts) ≡ true) → ltb (cond (k && g) (cond z 1 2) (mark_of ts)) 2 ≡ true
        → eqb t.kind Keyword ≡ k → contains 103 t.text ≡ g → all clean (cond (not (k && z)) (t ∷ before ts) []) ≡ true
    go true g true f e p q = refl
    go true true false f e p q = true_false e refl
    go true false false f e p q = rw (p, q) (f e)
    go false g z f e p q = rw p (f e)

-- the first keyword with the letter g is goto: the first goto is there
goto_place : (ts : List Token) (g : ℕ) → position has_g ts ≡ Some g → ((get_or ts g no_token).text ≟ ascii "goto") ≡ true → position (is_kw (ascii "goto")) ts ≡ Some g
unfolding position
goto_place [] g e q = none_some e
goto_place (t ∷ ts) g e q = go (has_g t) refl (position has_g ts) (goto_place ts) refl g e q
  where
    go : (b : Bool) → has_g t ≡ b → (o : Option ℕ)
        → ((g : ℕ) → position has_g ts ≡ Some g → ((get_or ts g no_token).text ≟ ascii "goto") ≡ true → position (is_kw (ascii "goto")) ts ≡ Some g) → position has_g ts ≡ o
        → (g : ℕ) → cond b (Some 0) (option_map suc o) ≡ Some g → ((get_or (t ∷ ts) g no_token).text ≟ ascii "goto") ≡ true
        → cond (is_kw (ascii "goto") t) (Some 0) (option_map suc (position (is_kw (ascii "goto")) ts)) ≡ Some g
    go true h o f i zero e q = rw ((and_split (eqb t.kind Keyword) (contains 103 t.text) h).0, q)
    go true h o f i (suc g) e q = absurd (let z : ◌≡◌ {A = ℕ} 0 (suc g) = some_same e in omega arith)
    go false h None f i g e q = none_some e
    go false h (Some k) f i zero e q = absurd (let z : ◌≡◌ {A = ℕ} (suc k) 0 = some_same e in omega arith)
    go false h (Some k) f i (suc g) e q =
        let z : k ≡ g = let y : suc k ≡ suc g = some_same e in omega arith in
        rw (clean_kw t (rw h), f g (i ∙ rw z) q)

module _ (l : Line) where
  pub marked_none : position has_g l.tokens ≡ None → Mark l 0
  marked_none e =
      let z : mark_of l.tokens ≡ 0 = mark_place l.tokens ∙ rw e in
      record { none = λ _. clean_line l.tokens z; cut = λ _. clean_before l.tokens (rw z); target = λ h. absurd (omega arith) }

  pub marked_unknown : Mark l 2
  marked_unknown = record { none = λ e. absurd (omega arith); cut = λ h. absurd (h refl); target = λ h. absurd (omega arith) }

  module _ (g : ℕ) (e : position has_g l.tokens ≡ Some g) (q : ((token l g).text ≟ ascii "goto") ≡ true) where
    clean_cut_off : all clean (before l.tokens) ≡ true
    clean_cut_off = let z : mark_of l.tokens ≡ 1 = mark_place l.tokens ∙ rw (e, q) in clean_before l.tokens (rw z)

    pub marked_goto : Mark l 1
    marked_goto = record { none = λ e. absurd (omega arith); cut = λ _. clean_cut_off; target = λ h. absurd (omega arith) }

    pub marked_symbol : (j : ℕ) → first_symbol (drop (g + 1) l.tokens) ≡ Some (token l j).text → Mark l (j + 3)
    unfolding goto_target
    marked_symbol j f =
        let z : j + 3 - 3 ≡ j = omega arith in
        record {
          none = λ e. absurd (omega arith);
          cut = λ _. clean_cut_off;
          target = λ h. rw (goto_place l.tokens g e q, z) f;
        }

-- Cut tokens

clean_cut : (s u : List ℕ) (k : ℕ) → (contains 103 s ≡ false → contains 103 u ≡ false) → clean (tok s k) ≡ true → clean (tok u k) ≡ true
clean_cut s u k f h = go (eqb k Keyword) (contains 103 s) refl h
  where
    go : (a b : Bool) → contains 103 s ≡ b → not (a && b) ≡ true → not (a && contains 103 u) ≡ true
    go false b e h = refl
    go true false e h = rw (f e)
    go true true e h = true_false h refl

without : (n : ℕ) (s : List ℕ) → contains 103 s ≡ false → (contains 103 (take n s) ≡ false) × (contains 103 (drop n s) ≡ false)
without n s h = none_split (eqb 103) (take n s) (drop n s) (rw take-append-drop h)

without_reverse : (s : List ℕ) → contains 103 s ≡ false → contains 103 (reverse s) ≡ false
without_reverse [] h = h
without_reverse (b ∷ s) h =
    let z = none_split (eqb 103) (b ∷ []) s h in
    rw reverse-cons (none_append (eqb 103) (reverse s) (b ∷ []) (without_reverse s z.1) z.0)

without_pop : (s : List ℕ) → contains 103 s ≡ false → contains 103 (pop s) ≡ false
unfolding pop_reversed
without_pop s h = without_reverse (pop_reversed (reverse s)) (go (reverse s) (without_reverse s h))
  where
    go : (s : List ℕ) → contains 103 s ≡ false → contains 103 (pop_reversed s) ≡ false
    go [] h = h
    go (b ∷ s) h =
        let z = (none_split (eqb 103) (b ∷ []) s h).1 in
        if_has (λ u. contains 103 u ≡ false) (leb 128 b && ltb b 192) (λ _. go s z) (λ _. z)

pub clean_popped : (ts : List Token) → all clean ts ≡ true → seek looking (popped ts) ≡ looking
clean_popped ts h =
    clean_seek (popped ts)
    (all_on_last clean (λ t. tok (pop t.text) t.kind) ts (λ t e k. clean_cut t.text (pop t.text) t.kind (without_pop t.text) k) h)

clean_ends : (ts : List Token) → all clean ts ≡ true → all clean (cut 2 2 ts) ≡ true
clean_ends ts h =
    all_filter clean (λ t. not (is_empty t)) (on_last (cut_end 2) (on_first (cut_front 2) ts))
    (all_on_last clean (cut_end 2) (on_first (cut_front 2) ts)
    (λ t e k. clean_cut t.text (take (length t.text - 2) t.text) t.kind (λ g. (without (length t.text - 2) t.text g).0) k)
    (all_on_first clean (cut_front 2) ts (λ t e k. clean_cut t.text (drop 2 t.text) t.kind (λ g. (without 2 t.text g).1) k) h))

abbrev silences : List Token → Type 0
silences c = seek looking c ≡ looking

clean_test : (l : Line) → all clean l.tokens ≡ true → IfSome silences (leading_test l 0)
unfolding leading_test
clean_test l h =
    do_has silences (require (is_leading_test l 0)) λ _ _.
    do_has silences (position (is_kw (ascii "break")) l.tokens) λ g _.
    let inner = part 1 g l.tokens in
    do_has silences (first inner) λ opening _.
    do_has silences (require (starts_with (ascii " (") opening.text)) λ _ _.
    do_has silences (last (on_first (cut_front 2) inner)) λ end _.
    do_has silences (require (ends_with (ascii ") ") end.text)) λ _ _ c e.
    subst silences (some_same e)
    (seek_negate looking (cut 2 2 inner)
    ∙ clean_seek (cut 2 2 inner) (clean_ends inner (all_halves clean (g - 1) (drop 1 l.tokens) (all_halves clean 1 l.tokens h).1).0))

pub clean_over : (l : Line) → all clean l.tokens ≡ true → seek looking (or_else (leading_test l 0) one) ≡ looking
clean_over l h = go (leading_test l 0) (clean_test l h)
  where
    go : (o : Option (List Token)) → IfSome silences o → seek looking (or_else o one) ≡ looking
    go None f = seek_one looking
    go (Some c) f = f c refl

-- Pieces

module _ (l t x ms : List ℕ) (M : Marked l t x ms) (p : ℕ) where
  abbrev C : List Line
  C = listing l t x

  abbrev ts : List Token
  ts = (origin C p).tokens

  -- the line of the piece, or none
  here : (P : List Token → Type 0) → P [] → (Mark (origin C p) (get_or ms (p / 4) 0) → P ts) → P ts
  here P a f = go (dec_lt (p / 4) (length l))
    where
      go : Dec (p / 4 < length l) → P ts
      go (yes h) = f (M.marks (p / 4) h)
      go (no h) = subst (λ m. P m.tokens) (sym (line_past l t x (p / 4) (omega arith))) a

  cut_clean : (get_or ms (p / 4) 0 ≡ 2 → ⊥) → (kw : List ℕ) → contains 103 kw ≡ false
      → all clean (take (cut_place (origin C p)) ts ++ (tok kw Keyword ∷ tok (ascii ";") Punct ∷ [])) ≡ true
  unfolding cut_place all
  cut_clean q kw e =
      all_append clean (take (cut_place (origin C p)) ts) (tok kw Keyword ∷ tok (ascii ";") Punct ∷ [])
      (subst (λ us. all clean us ≡ true) (place_before (is_kw (ascii "goto")) ts)
      (here (λ us. all clean (before us) ≡ true) (unfold take_while in refl) (λ f. f.cut q)))
      (rw e)

  abbrev m : ℕ
  m = get_or ms (p / 4) 0

  quiet_marks : quiet ms p ≡ true → (p % 4 ≡ 0 → m ≡ 0) × (m ≡ 2 → ⊥)
  unfolding quiet
  quiet_marks q = go (dec_le m 0)
    where
      rest : (m ≡ 0 → ⊥) → cond (eqb (p % 4) 0) false (not (eqb m 2)) ≡ true
      rest h = rw (ne_eqb m 0 h) at q

      go : Dec (m ≤ 0) → (p % 4 ≡ 0 → m ≡ 0) × (m ≡ 2 → ⊥)
      go (yes h) = let z : m ≡ 0 = omega arith in (λ _. z, λ e. omega arith)
      go (no h) =
          let r = rest (λ e. h (omega arith)) in
          let n : p % 4 ≡ 0 → ⊥ = λ e. true_false r (rw (eq-eqb (p % 4) 0 e)) in
          (λ e. absurd (n e), λ e. true_false (rw (ne_eqb (p % 4) 0 n) at r) (rw (eq-eqb m 2 e)))

  pub quiet_clean : quiet ms p ≡ true → all clean (piece C p).tokens ≡ true
  quiet_clean q = go (dec_le (p % 4) 0)
    where
      later : (p % 4 ≡ 0 → ⊥) → Dec (p % 4 ≤ 1) → Dec (p % 4 ≤ 2) → all clean (piece C p).tokens ≡ true
      later a (yes h) d = rw (continued_piece C p (omega arith)) (cut_clean (quiet_marks q).1 (ascii "continue") (unfold any in refl))
      later a (no h) (yes g) = rw (broken_piece C p (omega arith)) (cut_clean (quiet_marks q).1 (ascii "break") (unfold any in refl))
      later a (no h) (no g) = rw (closed_piece C p (omega arith)) (unfold all in refl)

      go : Dec (p % 4 ≤ 0) → all clean (piece C p).tokens ≡ true
      go (yes h) =
          let z : p % 4 ≡ 0 = omega arith in
          rw (kept_piece C p z) (here (λ us. all clean us ≡ true) (all_nil clean) (λ f. f.none ((quiet_marks q).0 z)))
      go (no h) = later (λ e. h (omega arith)) (dec_le (p % 4) 1) (dec_le (p % 4) 2)
