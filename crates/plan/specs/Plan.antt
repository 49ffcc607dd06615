-- The plan of a loop pass: for each current line what it is made of, and one word that says so. S is the listing that the pass was given.
--   Piece                     a line of S as it is, cut at its first goto with `continue;` or `break;` behind, or a closing brace in its place
--   Header                    no header; `while` over a condition; `for` over a condition with an initialiser and a step
--   Test                      a header's condition: the guard's own, 1, or the negated condition of a leading test
--   Plan                      a line: its indent, its piece, and the header that it became
--   piece_tokens S p          the tokens of a piece
--   test_tokens S p t         the tokens of a condition of the header in place of the piece p
--   planned S l               the line that a plan stands for
--   plan_of w                 the plan that a word says
--   render S ws               the lines that the words of a plan stand for: the vector that the Rust has at hand
--   word i h p t a z          the word with indent i, header h, piece p, test t, initialiser a and step z
-- Assumes nothing.
use Rattle.std.specs.Prelude.{ℕ, zero, suc, ◌+◌, ◌*◌, ◌/◌, ◌%◌, List, [], ◌∷◌, map, None}
use Rattle.definitions.specs.Lists.{or_else, ascii}
use Rattle.definitions.specs.Model.{Token, Line, tok, pseudo_line, line, Punct}
use Rattle.definitions.specs.Statements.{merge}
use Rattle.definitions.specs.Condition.{condition}
use Rattle.definitions.specs.ToFor.{for_head}
use Rattle.definitions.specs.Passes.{while_head}
use Rattle.definitions.specs.RecoverGotoLoops.{jump_line, leading_test, one}

-- What a line is made of

pub data Form : Type 0 where
  kept : Form
  continued : Form
  broken : Form
  closed : Form

pub record Piece : Type 0 where
  pub form : Form
  pub source : ℕ

pub data Test : Type 0 where
  guard : Test
  always : Test
  leading : Piece → Test

pub data Header : Type 0 where
  no_header : Header
  while_over : Test → Header
  for_over : Test → Piece → Piece → Header

pub record Plan : Type 0 where
  pub indent : ℕ
  pub piece : Piece
  pub header : Header

-- The tokens of it

unfoldable pub form_tokens : Form → Line → List Token
form_tokens kept l = l.tokens
form_tokens continued l = (jump_line (ascii "continue") l).tokens
form_tokens broken l = (jump_line (ascii "break") l).tokens
form_tokens closed l = tok (ascii "}") Punct ∷ []

abbrev pub piece_tokens : List Line → Piece → List Token
piece_tokens S p = form_tokens p.form (line S p.source)

-- the line of a piece, at the indent that the leading test of a header at indent 0 has
abbrev pub piece_line : List Line → Piece → Line
piece_line S p = pseudo_line None 1 (piece_tokens S p)

unfoldable pub test_tokens : List Line → Piece → Test → List Token
test_tokens S p guard = or_else (condition (piece_line S p) (ascii "if")) []
test_tokens S p always = one
test_tokens S p (leading t) = or_else (leading_test (piece_line S t) 0) one

-- the header of a guard is not merged, that of a label is
unfoldable pub while_tokens : List Line → Piece → Test → List Token
while_tokens S p guard = while_head (test_tokens S p guard)
while_tokens S p always = merge (while_head (test_tokens S p always))
while_tokens S p (leading t) = merge (while_head (test_tokens S p (leading t)))

unfoldable pub header_tokens : List Line → Piece → Header → List Token
header_tokens S p no_header = piece_tokens S p
header_tokens S p (while_over t) = while_tokens S p t
header_tokens S p (for_over t a z) = for_head (piece_tokens S a) (test_tokens S p t) (piece_tokens S z)

unfoldable pub planned : List Line → Plan → Line
planned S l = pseudo_line (line S l.piece.source).address l.indent (header_tokens S l.piece l.header)

-- Words. A piece has 12 bits: form + 4 × source.
-- A line has 59: indent + 256 × (header + 8 × (piece + 4096 × (test + 4096 × (initialiser + 4096 × step)))).

unfoldable pub form_of : ℕ → Form
form_of zero = kept
form_of (suc zero) = continued
form_of (suc (suc zero)) = broken
form_of (suc (suc (suc n))) = closed

abbrev pub piece_of : ℕ → Piece
piece_of p = record { form = form_of (p % 4); source = p / 4 }

-- 0 is none; 1, 2 and 3 a while over the guard, 1 and the test; 5, 6 and 7 a for over them; 4 is not made
unfoldable pub header_of : ℕ → Piece → Piece → Piece → Header
header_of zero t a z = no_header
header_of (suc zero) t a z = while_over guard
header_of (suc (suc zero)) t a z = while_over always
header_of (suc (suc (suc zero))) t a z = while_over (leading t)
header_of (suc (suc (suc (suc zero)))) t a z = for_over guard a z
header_of (suc (suc (suc (suc (suc zero))))) t a z = for_over guard a z
header_of (suc (suc (suc (suc (suc (suc zero)))))) t a z = for_over always a z
header_of (suc (suc (suc (suc (suc (suc (suc h))))))) t a z = for_over (leading t) a z

abbrev pub indent_at : ℕ → ℕ
indent_at w = w % 256

abbrev pub header_at : ℕ → ℕ
header_at w = w / 256 % 8

abbrev pub piece_at : ℕ → ℕ
piece_at w = w / 256 / 8 % 4096

abbrev pub test_at : ℕ → ℕ
test_at w = w / 256 / 8 / 4096 % 4096

abbrev pub initialiser_at : ℕ → ℕ
initialiser_at w = w / 256 / 8 / 4096 / 4096 % 4096

abbrev pub step_at : ℕ → ℕ
step_at w = w / 256 / 8 / 4096 / 4096 / 4096 % 4096

unfoldable pub plan_of : ℕ → Plan
plan_of w = record {
  indent = indent_at w;
  piece = piece_of (piece_at w);
  header = header_of (header_at w) (piece_of (test_at w)) (piece_of (initialiser_at w)) (piece_of (step_at w));
}

abbrev pub line_of : List Line → ℕ → Line
line_of S w = planned S (plan_of w)

abbrev pub render : List Line → List ℕ → List Line
render S ws = map (line_of S) ws

abbrev pub word : ℕ → ℕ → ℕ → ℕ → ℕ → ℕ → ℕ
word i h p t a z = i + 256 * (h + 8 * (p + 4096 * (t + 4096 * (a + 4096 * z))))
