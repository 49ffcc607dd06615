-- The text of a piece against `goto h;`, as rules for `search`.
--   halves, before_is             the texts of the first tokens
--   joins_short, joins_no, joins_is     two texts, one after the other, against a third
--   kept_no, kept_is              a line as it is
--   jump_no, jump_is              a line that was cut
--   back_kept, back_continued, back_broken, back_closed    a piece, by its form
-- Assumes nothing.
use mathlib.Core.Path.{◌≡◌, refl, sym, ap, ap₂, ◌∙◌}
use mathlib.Core.Bool.{Bool, true, false, ◌&&◌, and-false, and_assoc}
use mathlib.Core.List.{List, [], ◌∷◌, ◌++◌, append_assoc}
use Prim.Native.Nat.{ℕ, ◌-◌, ◌≤◌, ◌<◌}
use native.Mathlib.Nat.{sub-zero, le_of_suc-le-suc, not-suc-le-zero}
use native.Mathlib.Decide.{dec_le}
use native.Mathlib.Omega.{arith}
use lib.Dec.{eqb}
use lib.ListN.{length, take, drop, length-append, take-append-drop}
use lib.Seq.{take_at, take-append-le, drop-append-le}
use Rattle.definitions.specs.Lists.{part, ◌≟◌, starts_with, ascii}
use Rattle.definitions.specs.Model.{Token, Line, tok, line, text, Keyword, Punct}
use Rattle.text.proofs.Parts.{part_tail}
use Rattle.text.proofs.Texts.{≟_eq, eq_≟, ne_≟, ≟_sym, ≟_length, starts_part, starts_short}
use Rattle.loop_theory.proofs.Cases.{true_false}
use Rattle.pieces.specs.Pieces.{piece, cut_place, jumped, JumpWord, Says}
use Rattle.pieces.specs.declared.piece.Piece.TheVariants.{Kept, Continued, Broken, Closed}
use Rattle.pieces.proofs.Forms.{kept_piece, continued_piece, broken_piece, closed_piece}

-- Texts of tokens

pub text_append : (ts us : List Token) → text (ts ++ us) ≡ text ts ++ text us
unfolding text
text_append [] us = refl
text_append (t ∷ ts) us = ap (λ s. t.text ++ s) (text_append ts us) ∙ sym (append_assoc t.text (text ts) (text us))

halves : (g : ℕ) (ts : List Token) → text ts ≡ text (take g ts) ++ text (drop g ts)
halves g ts = ap text (sym (take-append-drop g ts)) ∙ text_append (take g ts) (drop g ts)

pub before_is : (ts : List Token) (g k : ℕ) (r s u : List ℕ) → s ≡ text (drop 0 ts) → u ≡ text (drop g ts) → k ≡ length s - length u → r ≡ part 0 k s → r ≡ text (take g ts)
before_is ts g k r s u e f d q =
    let h : s ≡ text (take g ts) ++ u = e ∙ halves g ts ∙ ap (λ x. text (take g ts) ++ x) (sym f) in
    let n : length (text (take g ts)) ≡ k = omega (arith, ap length h, length-append (text (take g ts)) u) in
    q ∙ rw (sub-zero k) (ap (take k) h ∙ take_at (text (take g ts)) u k n)

-- Two texts against a third

module _ (a b s : List ℕ) where
  pub joins_short : length s < length a → false ≡ ((a ++ b) ≟ s)
  joins_short h = sym (≟_length (a ++ b) s (λ e. omega (arith, length-append a b)))

pub split : (a b s : List ℕ) → length a ≤ length s → ((a ++ b) ≟ s) ≡ ((a ≟ take (length a) s) && (b ≟ drop (length a) s))
unfolding ◌≟◌
split [] b s h = refl
split (x ∷ a) b [] h = absurd (not-suc-le-zero h)
split (x ∷ a) b (y ∷ s) h = ap (λ c. eqb x y && c) (split a b s (le_of_suc-le-suc h)) ∙ sym (and_assoc (eqb x y) (a ≟ take (length a) s) (b ≟ drop (length a) s))

module _ (a b s u : List ℕ) (n : ℕ) (e : n ≡ length a) (h : n ≤ length s) (q : u ≡ part 0 n s) (x : Bool) (f : x ≡ (a ≟ u)) where
  first : x ≡ (a ≟ take (length a) s)
  first = f ∙ ap (λ y. a ≟ y) (q ∙ rw (sub-zero n, e))

  pub joins_no : x ≡ false → false ≡ ((a ++ b) ≟ s)
  joins_no g = sym (split a b s (omega arith) ∙ rw (← first, g))

  pub joins_is : x ≡ true → (v : List ℕ) (r : Bool) → v ≡ part n (length s) s → r ≡ (b ≟ v) → r ≡ ((a ++ b) ≟ s)
  joins_is g v r w d =
      let z : v ≡ drop (length a) s = w ∙ part_tail s n ∙ ap (λ (k : ℕ). drop k s) e in
      d ∙ ap (λ y. b ≟ y) z ∙ sym (split a b s (omega arith) ∙ rw (← first, g))

pub ruleset joining = (joins_short, joins_no, joins_is)

-- A line as it is

abbrev goto : List ℕ
goto = ascii "goto "

goto_short : (s h : List ℕ) → length s < 5 → (s ≟ (goto ++ h)) ≡ false
goto_short s h k = ≟_length s (goto ++ h) (λ e. omega (arith, length-append goto h))

goto_long : (s h : List ℕ) → 5 ≤ length s → (s ≟ (goto ++ h)) ≡ (starts_with goto s && (drop 5 s ≟ h))
goto_long s h k =
    ≟_sym s (goto ++ h) ∙ split goto h s k
    ∙ ap₂ ◌&&◌ (≟_sym goto (take 5 s) ∙ sym (starts_part goto s)) (≟_sym h (drop 5 s))

module _ (s h : List ℕ) (b : Bool) (e : b ≡ starts_with goto s) where
  starts_long : b ≡ true → 5 ≤ length s
  starts_long f = go (dec_le 5 (length s))
    where
      go : Dec (5 ≤ length s) → 5 ≤ length s
      go (yes k) = k
      go (no k) = true_false (sym e ∙ f) (starts_short goto s (omega arith))

  not_starting : b ≡ false → (s ≟ (goto ++ h)) ≡ false
  not_starting f = go (dec_le 5 (length s))
    where
      go : Dec (5 ≤ length s) → (s ≟ (goto ++ h)) ≡ false
      go (yes k) = goto_long s h k ∙ rw (← e, f)
      go (no k) = goto_short s h (omega arith)

  starting : b ≡ true → (s ≟ (goto ++ h)) ≡ (drop 5 s ≟ h)
  starting f = goto_long s h (starts_long f) ∙ rw (← e, f)

module _ (s h : List ℕ) (b : Bool) (e : b ≡ starts_with goto s) where
  pub kept_no : b ≡ false → false ≡ (s ≟ (goto ++ (h ++ ascii ";")))
  kept_no f = sym (not_starting s (h ++ ascii ";") b e f)

  pub kept_is : b ≡ true → (u : List ℕ) (r : Bool) → u ≡ part 5 (length s) s → r ≡ ((h ++ ascii ";") ≟ u) → r ≡ (s ≟ (goto ++ (h ++ ascii ";")))
  kept_is f u r q d = d ∙ ap (λ y. (h ++ ascii ";") ≟ y) (q ∙ part_tail s 5) ∙ ≟_sym (h ++ ascii ";") (drop 5 s) ∙ sym (starting s (h ++ ascii ";") b e f)

-- A line that was cut

cancel : (a b : List ℕ) (x : ℕ) → ((a ++ (x ∷ [])) ≟ (b ++ (x ∷ []))) ≡ (a ≟ b)
cancel a b x = go (a ≟ b) refl
  where
    go : (c : Bool) → (a ≟ b) ≡ c → ((a ++ (x ∷ [])) ≟ (b ++ (x ∷ []))) ≡ c
    go true e = eq_≟ (a ++ (x ∷ [])) (b ++ (x ∷ [])) (ap (λ y. y ++ (x ∷ [])) (≟_eq a b e))
    go false e = ne_≟ (a ++ (x ∷ [])) (b ++ (x ∷ [])) (λ q.
        let n : length a ≡ length b = omega (arith, ap length q, length-append a (x ∷ []), length-append b (x ∷ [])) in
        let z : a ≡ b = sym (take_at a (x ∷ []) (length a) refl) ∙ ap (take (length a)) q ∙ take_at b (x ∷ []) (length a) (sym n) in
        true_false (eq_≟ a b z) e)

module _ (kw : List ℕ) (j : JumpWord kw) where
  too_short : (s h : List ℕ) → length s < 5 → ((s ++ kw) ≟ (goto ++ h)) ≡ false
  too_short s h k = ap (λ w. (s ++ w) ≟ (goto ++ h)) j.is ∙ go s k
    where
      go : (s : List ℕ) → length s < 5 → ((s ++ (j.start ∷ j.rest)) ≟ (goto ++ h)) ≡ false
      go [] k = unfold ◌≟◌ in rw j.no_g
      go (a ∷ []) k = unfold ◌≟◌ in rw j.no_o (and-false (eqb a 103))
      go (a ∷ (b ∷ [])) k = unfold ◌≟◌ in rw (j.no_t, and-false (eqb b 111)) (and-false (eqb a 103))
      go (a ∷ (b ∷ (c ∷ []))) k = unfold ◌≟◌ in rw (j.no_o, and-false (eqb c 116), and-false (eqb b 111)) (and-false (eqb a 103))
      go (a ∷ (b ∷ (c ∷ (d ∷ [])))) k = unfold ◌≟◌ in rw (j.no_blank, and-false (eqb d 111), and-false (eqb c 116), and-false (eqb b 111)) (and-false (eqb a 103))
      go (a ∷ (b ∷ (c ∷ (d ∷ (e ∷ s))))) k = absurd (omega arith)

  behind : (s h : List ℕ) → ((s ++ (kw ++ ascii ";")) ≟ (goto ++ (h ++ ascii ";"))) ≡ ((s ++ kw) ≟ (goto ++ h))
  behind s h = ap₂ ◌≟◌ (sym (append_assoc s kw (ascii ";"))) (sym (append_assoc goto h (ascii ";"))) ∙ cancel (s ++ kw) (goto ++ h) 59

  module _ (s h : List ℕ) (b : Bool) (e : b ≡ starts_with goto s) where
    long : 5 ≤ length s → ((s ++ kw) ≟ (goto ++ h)) ≡ (starts_with goto s && ((drop 5 s ++ kw) ≟ h))
    long k =
        let n : 5 ≤ length (s ++ kw) = omega (arith, length-append s kw) in
        let t : take 5 (s ++ kw) ≡ take 5 s = take-append-le 5 s kw k in
        goto_long (s ++ kw) h n
        ∙ ap₂ ◌&&◌ (starts_part goto (s ++ kw) ∙ ap (λ x. x ≟ goto) t ∙ sym (starts_part goto s)) (ap (λ x. x ≟ h) (drop-append-le 5 s kw k))

    pub jump_no : b ≡ false → false ≡ ((s ++ (kw ++ ascii ";")) ≟ (goto ++ (h ++ ascii ";")))
    jump_no f = sym (behind s h ∙ go (dec_le 5 (length s)))
      where
        go : Dec (5 ≤ length s) → ((s ++ kw) ≟ (goto ++ h)) ≡ false
        go (yes k) = long k ∙ rw (← e, f)
        go (no k) = too_short s h (omega arith)

    pub jump_is : b ≡ true → (u : List ℕ) (r : Bool) → u ≡ part 5 (length s) s → r ≡ ((u ++ kw) ≟ h) → r ≡ ((s ++ (kw ++ ascii ";")) ≟ (goto ++ (h ++ ascii ";")))
    jump_is f u r q d =
        d ∙ ap (λ y. (y ++ kw) ≟ h) (q ∙ part_tail s 5) ∙ sym (behind s h ∙ long (starts_long s h b e f) ∙ rw (← e, f))

pub ruleset reading = (kept_no, kept_is, jump_no, jump_is)

-- A piece, by its form

jumped_text : (kw : List ℕ) (l : Line) → text (jumped kw l) ≡ text (take (cut_place l) l.tokens) ++ (kw ++ ascii ";")
unfolding text
jumped_text kw l = text_append (take (cut_place l) l.tokens) (tok kw Keyword ∷ tok (ascii ";") Punct ∷ [])

module _ (C : List Line) (p : ℕ) (h : List ℕ) where
  abbrev whole : List ℕ
  whole = goto ++ (h ++ ascii ";")

  pub back_kept : (i : ℕ) → Says p (Kept i) → (s : List ℕ) (r : Bool) → s ≡ text (drop 0 (line C i).tokens) → r ≡ (s ≟ whole) → r ≡ (text (piece C p).tokens ≟ whole)
  back_kept i y s r q d = rw (kept_piece C p y.form, ← y.line, ← q) d

  module _ (i : ℕ) (s : List ℕ) (g : ℕ) (r : Bool) (q : s ≡ text (take g (line C i).tokens)) (c : g ≡ cut_place (line C i)) where
    pub back_continued : Says p (Continued i) → r ≡ ((s ++ (ascii "continue" ++ ascii ";")) ≟ whole) → r ≡ (text (piece C p).tokens ≟ whole)
    back_continued y d = rw (continued_piece C p y.form, ← y.line, jumped_text (ascii "continue") (line C i), ← c, ← q) d

    pub back_broken : Says p (Broken i) → r ≡ ((s ++ (ascii "break" ++ ascii ";")) ≟ whole) → r ≡ (text (piece C p).tokens ≟ whole)
    back_broken y d = rw (broken_piece C p y.form, ← y.line, jumped_text (ascii "break") (line C i), ← c, ← q) d

  pub back_closed : (i : ℕ) → Says p (Closed i) → false ≡ (text (piece C p).tokens ≟ whole)
  unfolding text ◌≟◌
  back_closed i y = rw (closed_piece C p y.form)

pub ruleset backs = (back_kept, back_continued, back_broken, back_closed)

pub continue_word : JumpWord (ascii "continue")
continue_word = record { start = 99; rest = ascii "ontinue"; is = refl; no_g = refl; no_o = refl; no_t = refl; no_blank = refl }

pub break_word : JumpWord (ascii "break")
break_word = record { start = 98; rest = ascii "reak"; is = refl; no_g = refl; no_o = refl; no_t = refl; no_blank = refl }

pub ruleset texts = (before_is, joining, reading, backs, continue_word, break_word)
