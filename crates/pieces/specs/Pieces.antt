-- The pieces of a plan's lines as the code reads them: p is the word of a piece, C the listing of the columns.
--   piece C p           the line that the piece reads, at indent 1
--   origin C p          the line of C that it is made of
--   piece_text C p      the texts of the piece's tokens, one after the other
--   text_before l g     those of the first g tokens of line l
--   cut_place l         the place of the first goto of line l, or behind its last token
--   jumped kw l         the tokens of line l before its first goto, then `kw ;`
--   JumpWord kw         no byte of `goto ` is the first of kw
--   comes_before o g    the place o is below g
--   number q            the number of the piece's form
--   source q            the line that the piece q is made of
--   Says p q            the word p says the piece q
-- Assumes nothing.
use Rattle.std.specs.Prelude.{ℕ, ◌/◌, ◌%◌, Bool, false, ◌≡◌, List, [], ◌∷◌, ◌++◌, eqb, ltb, length, take, Option, None, Some}
use Rattle.definitions.specs.Lists.{or_else, position, ascii}
use Rattle.definitions.specs.Model.{Token, Line, tok, line, text, Keyword, Punct}
use Rattle.definitions.specs.Statements.{is_kw}
use Rattle.plan.specs.Plan.{piece_of, piece_line}
use Rattle.pieces.specs.declared.piece.Piece.{Piece}
use Rattle.pieces.specs.declared.piece.Piece.TheVariants.{Kept, Continued, Broken, Closed}

abbrev pub piece : List Line → ℕ → Line
piece C p = piece_line C (piece_of p)

abbrev pub origin : List Line → ℕ → Line
origin C p = line C (p / 4)

abbrev pub piece_text : List Line → ℕ → List ℕ
piece_text C p = text (piece C p).tokens

abbrev pub text_before : Line → ℕ → List ℕ
text_before l g = text (take g l.tokens)

unfoldable pub cut_place : Line → ℕ
cut_place l = or_else (position (is_kw (ascii "goto")) l.tokens) (length l.tokens)

abbrev pub jumped : List ℕ → Line → List Token
jumped kw l = take (cut_place l) l.tokens ++ (tok kw Keyword ∷ tok (ascii ";") Punct ∷ [])

abbrev pub comes_before : Option ℕ → ℕ → Bool
comes_before None g = false
comes_before (Some k) g = ltb k g

pub record JumpWord (kw : List ℕ) : Type 0 where
  pub start : ℕ
  pub rest : List ℕ
  pub is : kw ≡ start ∷ rest
  pub no_g : eqb start 103 ≡ false
  pub no_o : eqb start 111 ≡ false
  pub no_t : eqb start 116 ≡ false
  pub no_blank : eqb start 32 ≡ false

abbrev pub number : Piece → ℕ
number (Kept i) = 0
number (Continued i) = 1
number (Broken i) = 2
number (Closed i) = 3

abbrev pub source : Piece → ℕ
source (Kept i) = i
source (Continued i) = i
source (Broken i) = i
source (Closed i) = i

pub record Says (p : ℕ) (q : Piece) : Type 0 where
  pub form : p % 4 ≡ number q
  pub line : source q ≡ p / 4
