-- Steps of a piece, as rules for `search`.
--   between_is                    the texts of a run of tokens
--   adds_first, adds_second       ` += ` and ` -= `
--   steps_kept, steps_cut, steps_closed                            a step, by the form of the piece
--   family_kept, family_continued, family_broken, family_closed    the family of its first token
-- Assumes nothing.
use Rattle.std.specs.Prelude.{Option, None}
use mathlib.Core.Logic.{◌⊎◌, inl, inr}
use mathlib.Core.Path.{◌≡◌, refl, sym, ap, ◌∙◌}
use mathlib.Core.Bool.{Bool, true, false, cond}
use mathlib.Core.List.{List, [], ◌∷◌, ◌++◌}
use Prim.Native.Nat.{ℕ, zero, suc, ◌-◌, ◌≤◌}
use native.Mathlib.Nat.{sub-zero, not-suc-le-zero}
use native.Mathlib.Omega.{arith}
use borrow.Author.Tests.{eq-eqb, ne_eqb}
use lib.Dec.{eqb}
use lib.ListN.{length, get_or, take, drop, length-append, take-append-drop}
use lib.Seq.{take_at, drop-append-le, length-take-le}
use Rattle.definitions.specs.Lists.{or_else, position, part, ◌≟◌, starts_with, ascii}
use Rattle.definitions.specs.Model.{Token, Line, tok, no_token, token, line, text, Keyword, Punct}
use Rattle.definitions.specs.Statements.{is_kw}
use Rattle.definitions.specs.Family.{Family, fam_of}
use Rattle.definitions.specs.ToFor.{is_step}
use Rattle.text.proofs.Texts.{≟_length}
use Rattle.family.specs.declared.Register.{Register}
use Rattle.family.specs.Register.{family_of}
use Rattle.pieces.specs.Pieces.{piece, origin, cut_place, jumped, Says}
use Rattle.pieces.specs.declared.piece.Piece.{Piece}
use Rattle.pieces.specs.declared.piece.Piece.TheVariants.{Kept, Continued, Broken, Closed}
use Rattle.pieces.specs.Counting.{text_between, adds_to, jumped_steps, jumped_family, piece_rest}
use Rattle.pieces.proofs.Forms.{place_within, kept_piece, continued_piece, broken_piece, closed_piece}
use Rattle.pieces.proofs.Backs.{text_append}

-- Runs

runs : (n : ℕ) (ts : List Token) → (n ≡ 0 → ⊥) → text (drop 1 ts) ≡ text (drop 1 (take n ts)) ++ text (drop n ts)
runs zero ts h = absurd (h refl)
runs (suc n) [] h = unfold text in refl
runs (suc n) (t ∷ ts) h = ap text (sym (take-append-drop n ts)) ∙ text_append (take n ts) (drop n ts)

pub between_is : (ts : List Token) (n k : ℕ) (r s u : List ℕ) → (n ≡ 0 → ⊥) → s ≡ text (drop 1 ts) → u ≡ text (drop n ts) → k ≡ length s - length u → r ≡ part 0 k s
    → r ≡ text (drop 1 (take n ts))
between_is ts n k r s u z e f d q =
    let h : s ≡ text (drop 1 (take n ts)) ++ u = e ∙ runs n ts z ∙ ap (λ x. text (drop 1 (take n ts)) ++ x) (sym f) in
    let m : length (text (drop 1 (take n ts))) ≡ k = omega (arith, ap length h, length-append (text (drop 1 (take n ts))) u) in
    q ∙ rw (sub-zero k) (ap (take k) h ∙ take_at (text (drop 1 (take n ts))) u k m)

module _ (s : List ℕ) (b : Bool) (e : b ≡ starts_with (ascii " += ") s) where
  pub adds_first : b ≡ true → true ≡ adds_to s
  unfolding adds_to
  adds_first f = rw (← e, f)

  pub adds_second : b ≡ false → (r : Bool) → r ≡ starts_with (ascii " -= ") s → r ≡ adds_to s
  unfolding adds_to
  adds_second f r q = rw (← e, f) q

pub ruleset adding = (adds_first, adds_second)

-- What stands behind does not make a step.

module _ (o y : ℕ) (Y : List ℕ) (a : eqb 32 y ≡ false) (b : eqb o y ≡ false) (c : eqb 61 y ≡ false) where
  starts_cut : (X : List ℕ) → starts_with (32 ∷ o ∷ 61 ∷ 32 ∷ []) (X ++ (y ∷ Y)) ≡ starts_with (32 ∷ o ∷ 61 ∷ 32 ∷ []) X
  unfolding starts_with
  starts_cut [] = rw a
  starts_cut (p ∷ []) = rw b
  starts_cut (p ∷ (q ∷ [])) = rw c
  starts_cut (p ∷ (q ∷ (r ∷ []))) = rw a
  starts_cut (p ∷ (q ∷ (r ∷ (s ∷ X)))) = refl

step_cut : (kw : List ℕ) (X : List ℕ) → 3 ≤ length kw → starts_with (ascii " += ") (X ++ (kw ++ ascii ";")) ≡ starts_with (ascii " += ") X
    → starts_with (ascii " -= ") (X ++ (kw ++ ascii ";")) ≡ starts_with (ascii " -= ") X → is_step (X ++ (kw ++ ascii ";")) ≡ adds_to X
unfolding adds_to
step_cut kw X h p q =
    let n : 4 ≤ length (X ++ (kw ++ ascii ";")) = omega (arith, length-append X (kw ++ ascii ";"), length-append kw (ascii ";")) in
    rw (≟_length (X ++ (kw ++ ascii ";")) (ascii "++;") (λ e. omega arith), ≟_length (X ++ (kw ++ ascii ";")) (ascii "--;") (λ e. omega arith), p, q)

continue_step : (X : List ℕ) → is_step (X ++ (ascii "continue" ++ ascii ";")) ≡ adds_to X
continue_step X = step_cut (ascii "continue") X (omega arith) (starts_cut 43 99 (ascii "ontinue;") refl refl refl X) (starts_cut 45 99 (ascii "ontinue;") refl refl refl X)

break_step : (X : List ℕ) → is_step (X ++ (ascii "break" ++ ascii ";")) ≡ adds_to X
break_step X = step_cut (ascii "break") X (omega arith) (starts_cut 43 98 (ascii "reak;") refl refl refl X) (starts_cut 45 98 (ascii "reak;") refl refl refl X)

module _ (kw : List ℕ) (steps : (X : List ℕ) → is_step (X ++ (kw ++ ascii ";")) ≡ adds_to X) (l : Line) where
  cut_steps : is_step (text (drop 1 (jumped kw l))) ≡ jumped_steps l
  cut_steps = go (cut_place l) (place_within (is_kw (ascii "goto")) l.tokens) refl
    where
      go : (n : ℕ) → or_else (position (is_kw (ascii "goto")) l.tokens) (length l.tokens) ≤ length l.tokens → cut_place l ≡ n → is_step (text (drop 1 (jumped kw l))) ≡ jumped_steps l
      go zero h e = unfold text starts_with ◌≟◌ in rw e
      go (suc n) h e =
          let k : suc n ≤ length l.tokens = unfold cut_place in omega arith in
          let m : length (take (suc n) l.tokens) ≡ suc n = length-take-le (suc n) l.tokens k in
          rw (e, ne_eqb (suc n) 0 (λ q. omega arith))
          (ap (λ ts. is_step (text ts)) (drop-append-le 1 (take (suc n) l.tokens) (tok kw Keyword ∷ tok (ascii ";") Punct ∷ []) (omega arith))
          ∙ ap is_step (text_append (drop 1 (take (suc n) l.tokens)) (tok kw Keyword ∷ tok (ascii ";") Punct ∷ []))
          ∙ (unfold text in steps (text (drop 1 (take (suc n) l.tokens)))))

  cut_family : fam_of (get_or (jumped kw l) 0 no_token) ≡ jumped_family l
  cut_family = go l.tokens (cut_place l) (unfold cut_place in place_within (is_kw (ascii "goto")) l.tokens)
    where
      go : (ts : List Token) (n : ℕ) → n ≤ length ts → fam_of (get_or (take n ts ++ (tok kw Keyword ∷ tok (ascii ";") Punct ∷ [])) 0 no_token) ≡ cond (eqb n 0) None (fam_of (get_or ts 0 no_token))
      go ts zero h = unfold fam_of in refl
      go [] (suc n) h = absurd (not-suc-le-zero h)
      go (t ∷ ts) (suc n) h = rw (ne_eqb (suc n) 0 (λ q. omega arith))

module _ (l : Line) (n : ℕ) (c : n ≡ cut_place l) where
  pub jumped_none : n ≡ 0 → false ≡ jumped_steps l
  jumped_none e = rw (← c, eq-eqb n 0 e)

  pub jumped_some : (n ≡ 0 → ⊥) → (s : List ℕ) (r : Bool) → s ≡ text_between l n → r ≡ adds_to s → r ≡ jumped_steps l
  jumped_some h s r q e = rw (← c, ne_eqb n 0 h, ← q) e

  pub no_family : n ≡ 0 → None ≡ jumped_family l
  no_family e = rw (← c, eq-eqb n 0 e)

  pub its_family : (n ≡ 0 → ⊥) → (o : Option Family) → o ≡ fam_of (token l 0) → o ≡ jumped_family l
  its_family h o e = rw (← c, ne_eqb n 0 h) e

pub ruleset jumps = (jumped_none, jumped_some, no_family, its_family)

module _ (C : List Line) (p i : ℕ) where
  pub steps_kept : Says p (Kept i) → (r : Bool) → r ≡ is_step (text (drop 1 (line C i).tokens)) → r ≡ is_step (piece_rest C p)
  steps_kept s r d = rw (kept_piece C p s.form, ← s.line) d

  steps_continued : Says p (Continued i) → (r : Bool) → r ≡ jumped_steps (line C i) → r ≡ is_step (piece_rest C p)
  steps_continued s r d = rw (continued_piece C p s.form, ← s.line) (d ∙ sym (cut_steps (ascii "continue") continue_step (line C i)))

  steps_broken : Says p (Broken i) → (r : Bool) → r ≡ jumped_steps (line C i) → r ≡ is_step (piece_rest C p)
  steps_broken s r d = rw (broken_piece C p s.form, ← s.line) (d ∙ sym (cut_steps (ascii "break") break_step (line C i)))

  pub steps_closed : Says p (Closed i) → false ≡ is_step (piece_rest C p)
  unfolding text starts_with ◌≟◌
  steps_closed s = rw (closed_piece C p s.form)

  pub steps_cut : (q : Piece) → Says p q → (q ≡ Continued i) ⊎ (q ≡ Broken i) → (r : Bool) → r ≡ jumped_steps (line C i) → r ≡ is_step (piece_rest C p)
  steps_cut q s (inl e) r d = steps_continued (rw e at s) r d
  steps_cut q s (inr e) r d = steps_broken (rw e at s) r d

  module _ (r : Option Register) where
    pub family_kept : Says p (Kept i) → family_of (token (line C i) 0).text r ≡ fam_of (token (line C i) 0) → family_of (token (origin C p) 0).text r ≡ fam_of (token (piece C p) 0)
    family_kept s d = rw (kept_piece C p s.form, ← s.line) d

    pub family_continued : Says p (Continued i) → family_of (token (line C i) 0).text r ≡ jumped_family (line C i) → family_of (token (origin C p) 0).text r ≡ fam_of (token (piece C p) 0)
    family_continued s d = rw (continued_piece C p s.form, ← s.line) (d ∙ sym (cut_family (ascii "continue") continue_step (line C i)))

    pub family_broken : Says p (Broken i) → family_of (token (line C i) 0).text r ≡ jumped_family (line C i) → family_of (token (origin C p) 0).text r ≡ fam_of (token (piece C p) 0)
    family_broken s d = rw (broken_piece C p s.form, ← s.line) (d ∙ sym (cut_family (ascii "break") break_step (line C i)))

  pub family_closed : Says p (Closed i) → None ≡ fam_of (token (piece C p) 0)
  unfolding fam_of
  family_closed s = rw (closed_piece C p s.form)

pub ruleset stepping = (steps_kept, steps_cut, steps_closed, family_kept, family_continued, family_broken, family_closed)

pub ruleset counting = (between_is, adding, jumps, stepping)
