-- The tokens of a piece, as they are or without the last code point.
--   kept_text, popped_text, last_trimmed    one token
--   jumped_parts, cut_within     a line that was cut at its first goto
--   kept_dressed, continued_dressed, broken_dressed, closed_dressed    a piece, by its form
-- Assumes nothing.
use mathlib.Core.Path.{◌≡◌, refl, ap, ◌∙◌}
use mathlib.Core.Bool.{Bool, true, false}
use mathlib.Core.List.{List, [], ◌∷◌, ◌++◌}
use Prim.Native.Nat.{ℕ, ◌≤◌}
use native.Mathlib.Nat.{sub-zero}
use native.Mathlib.Omega.{arith}
use lib.ListN.{length, take}
use lib.Seq.{take-length}
use Rattle.definitions.specs.Lists.{part, on_last, ascii}
use Rattle.definitions.specs.Model.{Token, Line, tok, line, Keyword, Punct}
use Rattle.definitions.specs.Statements.{is_kw}
use Rattle.definitions.specs.ToFor.{pop}
use Rattle.pieces.specs.Pieces.{piece, cut_place, jumped, Says}
use Rattle.pieces.specs.declared.piece.Piece.TheVariants.{Kept, Continued, Broken, Closed}
use Rattle.pieces.proofs.Forms.{place_within, kept_piece, continued_piece, broken_piece, closed_piece}
use Rattle.append_pieces.specs.Dressed.{dressed, trimmed}

-- One token

module _ (p : Bool) (s : List ℕ) where
  pub kept_text : p ≡ false → s ≡ trimmed p s
  kept_text e = rw e

  pub popped_text : p ≡ true → (n : ℕ) → take n s ≡ pop s → (r : List ℕ) → r ≡ part 0 n s → r ≡ trimmed p s
  popped_text e n v r u = rw e (u ∙ ap (λ m. take m s) (sub-zero n) ∙ v)

  pub last_trimmed : (r : List ℕ) → r ≡ trimmed p s → (tok r Punct ∷ []) ≡ dressed p (tok s Punct ∷ [])
  last_trimmed r e = ap (λ x. tok x Punct ∷ []) e ∙ go p
    where
      go : (p : Bool) → (tok (trimmed p s) Punct ∷ []) ≡ dressed p (tok s Punct ∷ [])
      go true = unfold on_last in refl
      go false = refl

pub ruleset trims = (kept_text, popped_text)

-- A line that was cut

on_last_two : (f : Token → Token) (xs : List Token) (a b : Token) → xs ++ (a ∷ (f b ∷ [])) ≡ on_last f (xs ++ (a ∷ (b ∷ [])))
unfolding on_last
on_last_two f [] a b = refl
on_last_two f (x ∷ []) a b = refl
on_last_two f (x ∷ (y ∷ xs)) a b = ap (λ ts. x ∷ ts) (on_last_two f (y ∷ xs) a b)

jumped_dressed : (p : Bool) (xs : List Token) (a b : Token) → xs ++ ((a ∷ []) ++ dressed p (b ∷ [])) ≡ dressed p (xs ++ (a ∷ (b ∷ [])))
unfolding on_last
jumped_dressed false xs a b = refl
jumped_dressed true xs a b = on_last_two (λ t. tok (pop t.text) t.kind) xs a b

pub jumped_parts : (p : Bool) (l : Line) (kw : List ℕ) (n : ℕ) → n ≡ cut_place l
    → take n l.tokens ++ ((tok kw Keyword ∷ []) ++ dressed p (tok (ascii ";") Punct ∷ [])) ≡ dressed p (jumped kw l)
jumped_parts p l kw n e =
    ap (λ m. take m l.tokens ++ ((tok kw Keyword ∷ []) ++ dressed p (tok (ascii ";") Punct ∷ []))) e
    ∙ jumped_dressed p (take (cut_place l) l.tokens) (tok kw Keyword) (tok (ascii ";") Punct)

pub cut_within : (l : Line) (n : ℕ) → n ≡ cut_place l → n ≤ length l.tokens
unfolding cut_place
cut_within l n e = omega (arith, e, place_within (is_kw (ascii "goto")) l.tokens)

-- A piece

module _ (q : Bool) (C : List Line) (p : ℕ) where
  pub kept_dressed : (i : ℕ) → Says p (Kept i) → (n : ℕ) → n ≡ length (line C i).tokens → dressed q (take n (line C i).tokens) ≡ dressed q (piece C p).tokens
  kept_dressed i s n k = rw (kept_piece C p s.form, ← s.line) (ap (dressed q) (ap (λ m. take m (line C i).tokens) k ∙ take-length (line C i).tokens))

  pub continued_dressed : (i : ℕ) → Says p (Continued i) → dressed q (jumped (ascii "continue") (line C i)) ≡ dressed q (piece C p).tokens
  continued_dressed i s = rw (continued_piece C p s.form, ← s.line)

  pub broken_dressed : (i : ℕ) → Says p (Broken i) → dressed q (jumped (ascii "break") (line C i)) ≡ dressed q (piece C p).tokens
  broken_dressed i s = rw (broken_piece C p s.form, ← s.line)

  pub closed_dressed : (i : ℕ) → Says p (Closed i) → dressed q (tok (ascii "}") Punct ∷ []) ≡ dressed q (piece C p).tokens
  closed_dressed i s = rw (closed_piece C p s.form)
