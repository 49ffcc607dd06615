-- The calls over JSON text: what each answers and what it leaves in every lent word.
--   read_call s out     the reader: question 10; refused, everything lent is zero; accepted, the columns are packed and zero behind
--   write_call c out    the writer: questions 1 to 4; refused, nothing is written; accepted, the text's length, the text and zeros behind
-- Assumes nothing.
use Rattle.std.specs.Prelude.{if◌then◌else◌, ℕ, Bool, ◌&&◌, List, [], ◌∷◌, eqb, leb, length, Option, None, Some}
use Rattle.definitions.specs.Model.{Line}
use Rattle.definitions.specs.Columns.{listing, with_addresses, line_words, address_words, token_words, text_bytes}
use Rattle.definitions.specs.Questions.{limits, question_1, question_2, question_3, refusal}
use Rattle.definitions.specs.Answers.{Answer, refused, accepted}
use Rattle.definitions.specs.Calls.{Columns, Passed, passed, filled}
use Rattle.json_definitions.specs.Reader.{read}
use Rattle.json_definitions.specs.Writer.{write}

-- Question 10: is the input RFC 8259 and of document 01's shape, within 1 and within the lent destination?

abbrev pub fits : Columns → List Line → Bool
fits out L =
    question_1 limits (line_words L) (token_words L) (text_bytes L)
    && (leb (length (line_words L)) (length out.lines) && (leb (length (address_words L)) (length out.addresses)
    && (leb (length (token_words L)) (length out.tokens) && leb (length (text_bytes L)) (length out.text))))

unfoldable pub fitting : Columns → Option (List Line) → Answer (List Line)
fitting out None = refused 10
fitting out (Some L) = if fits out L then accepted L else refused 10

unfoldable pub read_call : List ℕ → Columns → Passed
read_call s out = passed (fitting out (read s)) out

-- The writer: questions 1, 2, 3, and 4 for the exact text.

-- the answer, the text's length, and what was lent for the text at exit
pub record Written : Type 0 where
  pub answer : Answer ℕ
  pub out : List ℕ

abbrev pub listing_of : Columns → List Line
listing_of c = with_addresses c.lines c.addresses (listing c.lines c.tokens c.text)

abbrev pub write_refusal : Columns → List ℕ → Option ℕ
write_refusal c out = refusal (
    (1, question_1 limits c.lines c.tokens c.text)
    ∷ (2, eqb (length c.addresses) (length c.lines) && question_2 c.lines c.tokens c.text)
    ∷ (3, question_3 c.tokens c.text)
    ∷ (4, leb (length (write (listing_of c))) (length out)) ∷ [])

unfoldable pub write_call : Columns → List ℕ → Written
write_call c out = elim (write_refusal c out) [
  | Some n ↦ record { answer = refused n; out = out }
  | None ↦ record { answer = accepted (length (write (listing_of c))); out = filled (write (listing_of c)) out }
]
