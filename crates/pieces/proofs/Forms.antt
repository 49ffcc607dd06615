-- What a piece reads, by its form, as rules for `search`.
--   place_before          what stands before the first goto
--   kept_piece, continued_piece, broken_piece, closed_piece    the tokens of a piece
--   label_kept, label_other, label_not_kept       labels
--   target_kept, target_other, target_not_kept    goto targets
--   cut_here, cut_whole               the place of the first goto
--   continue_kept, continue_is, continue_before, continue_closed    the keyword continue
--   brace_kept, brace_continued, brace_broken, brace_closed         the lone brace
-- Assumes nothing.
use Rattle.std.specs.Prelude.{Option, None, Some}
use Rattle.std.specs.Option.{option_map}
use mathlib.Core.Path.{◌≡◌, refl, sym, ap, ◌∙◌}
use mathlib.Core.Bool.{Bool, true, false, cond, not, ◌||◌, or-true}
use mathlib.Core.List.{List, [], ◌∷◌, ◌++◌}
use Prim.Native.Nat.{ℕ, zero, suc, ◌%◌, ◌≤◌, ◌<◌}
use native.Mathlib.Decide.{dec_lt}
use native.Mathlib.Omega.{arith}
use borrow.Author.Tests.{lt-ltb, le-ltb}
use lib.Dec.{ltb}
use lib.ListN.{length, take, length-append}
use Rattle.definitions.specs.Lists.{or_else, any, position, take_while, ◌≟◌, ascii}
use Rattle.definitions.specs.Model.{Token, Line, tok, pseudo_line, line, text, Keyword, Punct}
use Rattle.definitions.specs.Statements.{is_kw, has_kw, is_label, goto_target}
use Rattle.definitions.specs.Passes.{lone_brace}
use Rattle.definitions.specs.RecoverGotoLoops.{jump_line}
use Rattle.text.proofs.Texts.{≟_length}
use Rattle.loop_theory.proofs.Cases.{or_split}
use Rattle.loop_theory.proofs.Jumps.{jump_line_no_label, jump_line_has_no_goto}
use Rattle.plan.specs.Plan.{form_tokens, form_of}
use Rattle.pseudo_opt.specs.Places.{text_at}
use Rattle.pieces.specs.Pieces.{piece, origin, cut_place, jumped, comes_before, Says}
use Rattle.pieces.specs.declared.piece.Piece.{Piece}
use Rattle.pieces.specs.declared.piece.Piece.TheVariants.{Kept, Continued, Broken, Closed}

-- What stands before the first that passes

pub ltb_suc : (k g : ℕ) → ltb k g ≡ ltb (suc k) (suc g)
ltb_suc k g = go (dec_lt k g)
  where
    go : Dec (k < g) → ltb k g ≡ ltb (suc k) (suc g)
    go (yes h) = lt-ltb k g h ∙ sym (lt-ltb (suc k) (suc g) (omega arith))
    go (no h) = le-ltb k g (omega arith) ∙ sym (le-ltb (suc k) (suc g) (omega arith))

module _ {A : Type 0} (q : A → Bool) where
  pub place_before : (xs : List A) → take_while (λ x. not (q x)) xs ≡ take (or_else (position q xs) (length xs)) xs
  unfolding take_while position
  place_before [] = refl
  place_before (x ∷ xs) = go (q x) (position q xs) (place_before xs)
    where
      go : (b : Bool) (o : Option ℕ) → take_while (λ x. not (q x)) xs ≡ take (or_else o (length xs)) xs
          → cond (not b) (x ∷ take_while (λ x. not (q x)) xs) [] ≡ take (or_else (cond b (Some 0) (option_map suc o)) (suc (length xs))) (x ∷ xs)
      go true o e = refl
      go false None e = ap (λ ys. x ∷ ys) e
      go false (Some k) e = ap (λ ys. x ∷ ys) e

  pub place_within : (xs : List A) → or_else (position q xs) (length xs) ≤ length xs
  unfolding position
  place_within [] = omega arith
  place_within (x ∷ xs) = go (q x) (position q xs) (place_within xs)
    where
      go : (b : Bool) (o : Option ℕ) → or_else o (length xs) ≤ length xs → or_else (cond b (Some 0) (option_map suc o)) (suc (length xs)) ≤ suc (length xs)
      go true o e = omega arith
      go false None e = omega arith
      go false (Some k) e = omega arith

  pub any_before : (xs : List A) (g : ℕ) → any q (take g xs) ≡ comes_before (position q xs) g
  unfolding any position
  any_before [] zero = refl
  any_before [] (suc g) = refl
  any_before (x ∷ xs) zero = go (q x) (position q xs)
    where
      go : (b : Bool) (o : Option ℕ) → false ≡ comes_before (cond b (Some 0) (option_map suc o)) 0
      go true o = sym (le-ltb 0 0 (omega arith))
      go false None = refl
      go false (Some k) = sym (le-ltb (suc k) 0 (omega arith))
  any_before (x ∷ xs) (suc g) = go (q x) (position q xs) (any_before xs g)
    where
      go : (b : Bool) (o : Option ℕ) → any q (take g xs) ≡ comes_before o g → (b || any q (take g xs)) ≡ comes_before (cond b (Some 0) (option_map suc o)) (suc g)
      go true o e = sym (lt-ltb 0 (suc g) (omega arith))
      go false None e = e
      go false (Some k) e = e ∙ ltb_suc k g

  no_place : (xs : List A) → any q xs ≡ false → position q xs ≡ None
  unfolding any position
  no_place [] e = refl
  no_place (x ∷ xs) e = let s = or_split (q x) (any q xs) e in rw (s.0, no_place xs s.1)

-- Behind it

abbrev ending : List ℕ → List Token
ending kw = tok kw Keyword ∷ tok (ascii ";") Punct ∷ []

with_continue : (ts : List Token) → any (is_kw (ascii "continue")) (ts ++ ending (ascii "continue")) ≡ true
unfolding any ◌≟◌
with_continue [] = refl
with_continue (t ∷ ts) = rw (with_continue ts) (or-true (is_kw (ascii "continue") t))

with_break : (ts : List Token) → any (is_kw (ascii "continue")) (ts ++ ending (ascii "break")) ≡ any (is_kw (ascii "continue")) ts
unfolding any ◌≟◌
with_break [] = refl
with_break (t ∷ ts) = rw (with_break ts)

many : (ts : List Token) (kw : List ℕ) → 2 ≤ length kw → 3 ≤ length (text (ts ++ ending kw))
unfolding text
many [] kw h = omega (arith, length-append kw (ascii ";"))
many (t ∷ ts) kw h = omega (arith, length-append t.text (text (ts ++ ending kw)), many ts kw h)

-- The forms

module _ (C : List Line) (p : ℕ) where
  pub kept_piece : p % 4 ≡ 0 → (piece C p).tokens ≡ (origin C p).tokens
  unfolding form_of form_tokens
  kept_piece e = rw e

  pub continued_piece : p % 4 ≡ 1 → (piece C p).tokens ≡ jumped (ascii "continue") (origin C p)
  unfolding form_of form_tokens cut_place
  continued_piece e = rw e (ap (λ ts. ts ++ (tok (ascii "continue") Keyword ∷ tok (ascii ";") Punct ∷ [])) (place_before (is_kw (ascii "goto")) (origin C p).tokens))

  pub broken_piece : p % 4 ≡ 2 → (piece C p).tokens ≡ jumped (ascii "break") (origin C p)
  unfolding form_of form_tokens cut_place
  broken_piece e = rw e (ap (λ ts. ts ++ (tok (ascii "break") Keyword ∷ tok (ascii ";") Punct ∷ [])) (place_before (is_kw (ascii "goto")) (origin C p).tokens))

  pub closed_piece : p % 4 ≡ 3 → (piece C p).tokens ≡ tok (ascii "}") Punct ∷ []
  unfolding form_of form_tokens
  closed_piece e = rw e

  not_kept : (q : Piece) → Says p q → ((i : ℕ) → q ≡ Kept i → ⊥) → p % 4 ≡ 0 → ⊥
  not_kept (Kept i) s n e = n i refl
  not_kept (Continued i) s n e = omega (arith, s.form)
  not_kept (Broken i) s n e = omega (arith, s.form)
  not_kept (Closed i) s n e = omega (arith, s.form)

  -- what holds of the others
  module _ (P : List Token → Type 0) where
    other_piece : (p % 4 ≡ 0 → ⊥) → P (jump_line (ascii "continue") (origin C p)).tokens → P (jump_line (ascii "break") (origin C p)).tokens
        → P (tok (ascii "}") Punct ∷ []) → P (piece C p).tokens
    unfolding form_tokens form_of
    other_piece h a b c = go (p % 4) h
      where
        go : (n : ℕ) → (n ≡ 0 → ⊥) → P (form_tokens (form_of n) (origin C p))
        go zero f = absurd (f refl)
        go (suc zero) f = a
        go (suc (suc zero)) f = b
        go (suc (suc (suc n))) f = c

  -- Labels

  pub label_kept : (i : ℕ) → Says p (Kept i) → (r : Bool) → r ≡ is_label (line C i) → r ≡ is_label (piece C p)
  unfolding is_label
  label_kept i s r e = rw (kept_piece s.form) (rw s.line at e)

  pub label_other : (p % 4 ≡ 0 → ⊥) → false ≡ is_label (piece C p)
  unfolding is_label
  label_other h =
      other_piece (λ ts. false ≡ is_label (pseudo_line None 1 ts)) h (sym (jump_line_no_label (ascii "continue") (origin C p)))
      (sym (jump_line_no_label (ascii "break") (origin C p))) refl

  pub label_not_kept : (q : Piece) → Says p q → ((i : ℕ) → q ≡ Kept i → ⊥) → false ≡ is_label (piece C p)
  label_not_kept q s n = label_other (not_kept q s n)

  -- Gotos

  pub target_kept : (i : ℕ) → Says p (Kept i) → (o : Option ℕ) → text_at (line C i) o ≡ goto_target (line C i) → text_at (origin C p) o ≡ goto_target (piece C p)
  unfolding goto_target
  target_kept i s o e = rw (kept_piece s.form) (rw s.line at e)

  pub target_other : (p % 4 ≡ 0 → ⊥) → None ≡ goto_target (piece C p)
  target_other h =
      other_piece (λ ts. None ≡ goto_target (pseudo_line None 1 ts)) h (nowhere (jump_line (ascii "continue") (origin C p)) (jump_line_has_no_goto (ascii "continue") (origin C p) (unfold ◌≟◌ in refl)))
      (nowhere (jump_line (ascii "break") (origin C p)) (jump_line_has_no_goto (ascii "break") (origin C p) (unfold ◌≟◌ in refl))) (unfold goto_target position ◌≟◌ in refl)
    where
      nowhere : (l : Line) → has_kw l (ascii "goto") ≡ false → None ≡ goto_target (pseudo_line None 1 l.tokens)
      nowhere l e = unfold goto_target in rw (no_place (is_kw (ascii "goto")) l.tokens (unfold has_kw in e))

  pub target_not_kept : (q : Piece) → Says p q → ((i : ℕ) → q ≡ Kept i → ⊥) → None ≡ goto_target (piece C p)
  target_not_kept q s n = target_other (not_kept q s n)

  -- The keyword continue

  pub continue_kept : (i : ℕ) → Says p (Kept i) → (r : Bool) → r ≡ has_kw (line C i) (ascii "continue") → r ≡ has_kw (piece C p) (ascii "continue")
  unfolding has_kw
  continue_kept i s r e = rw (kept_piece s.form) (rw s.line at e)

  pub continue_is : (i : ℕ) → Says p (Continued i) → true ≡ has_kw (piece C p) (ascii "continue")
  unfolding has_kw
  continue_is i s = rw (continued_piece s.form) (sym (with_continue (take (cut_place (origin C p)) (origin C p).tokens)))

  pub continue_before : (i : ℕ) → Says p (Broken i) → (f : Option ℕ) (g : ℕ) (r : Bool) → f ≡ position (is_kw (ascii "continue")) (line C i).tokens → g ≡ cut_place (line C i)
      → r ≡ comes_before f g → r ≡ has_kw (piece C p) (ascii "continue")
  unfolding has_kw
  continue_before i s f g r d q h =
      h ∙ rw (broken_piece s.form, rw s.line at d, rw s.line at q)
      (sym (any_before (is_kw (ascii "continue")) (origin C p).tokens (cut_place (origin C p)))
      ∙ sym (with_break (take (cut_place (origin C p)) (origin C p).tokens)))

  module _ (i : ℕ) (s : Says p (Closed i)) where
    pub continue_closed : false ≡ has_kw (piece C p) (ascii "continue")
    unfolding has_kw any ◌≟◌
    continue_closed = rw (closed_piece s.form)

    pub brace_closed : true ≡ lone_brace (piece C p)
    unfolding text ◌≟◌
    brace_closed = rw (closed_piece s.form)

  -- The lone brace

  pub brace_kept : (i : ℕ) → Says p (Kept i) → (r : Bool) → r ≡ lone_brace (line C i) → r ≡ lone_brace (piece C p)
  brace_kept i s r e = rw (kept_piece s.form) (rw s.line at e)

  no_brace : (ts : List Token) (kw : List ℕ) → 2 ≤ length kw → false ≡ (text (ts ++ (tok kw Keyword ∷ tok (ascii ";") Punct ∷ [])) ≟ ascii "}")
  no_brace ts kw h = sym (≟_length (text (ts ++ (tok kw Keyword ∷ tok (ascii ";") Punct ∷ []))) (ascii "}") (λ e. omega (arith, many ts kw h)))

  pub brace_continued : (i : ℕ) → Says p (Continued i) → false ≡ lone_brace (piece C p)
  brace_continued i s = rw (continued_piece s.form) (no_brace (take (cut_place (origin C p)) (origin C p).tokens) (ascii "continue") (omega arith))

  pub brace_broken : (i : ℕ) → Says p (Broken i) → false ≡ lone_brace (piece C p)
  brace_broken i s = rw (broken_piece s.form) (no_brace (take (cut_place (origin C p)) (origin C p).tokens) (ascii "break") (omega arith))

pub ruleset reads = (label_kept, label_not_kept, target_kept, target_not_kept, continue_kept, continue_is, continue_before, continue_closed, brace_kept, brace_continued, brace_broken, brace_closed)

-- The place of the first goto

module _ (l : Line) (f : Option ℕ) (e : f ≡ position (is_kw (ascii "goto")) l.tokens) where
  pub cut_here : (g : ℕ) → f ≡ Some g → g ≡ cut_place l
  unfolding cut_place
  cut_here g q = rw (← e, q)

  pub cut_whole : (n : ℕ) → f ≡ None → n ≡ length l.tokens → n ≡ cut_place l
  unfolding cut_place
  cut_whole n q d = rw (← e, q) d

pub before_at : (f : Option ℕ) (k g : ℕ) → f ≡ Some k → ltb k g ≡ comes_before f g
before_at f k g e = rw e

pub before_nothing : (f : Option ℕ) (g : ℕ) → f ≡ None → false ≡ comes_before f g
before_nothing f g e = rw e

pub ruleset cuts = (cut_here, cut_whole, before_at, before_nothing)
