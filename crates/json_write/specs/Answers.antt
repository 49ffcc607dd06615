-- The lent columns, the answer of the call and the lent text, as the definition `write_call` has them.
--   columns l a t x    the lent columns
--   lines_of l a t x   the listing that they stand for
--   head_text l        a line's text up to its tokens
--   fourth w out       question 4 for the text w, and what the call then answers and leaves
--   written r out      the answer and the lent text at exit
-- Assumes nothing.
use Rattle.std.specs.Prelude.{if◌then◌else◌, ℕ, List, ◌++◌, leb, length, Result}
use Rattle.definitions.specs.Lists.{ascii}
use Rattle.definitions.specs.Model.{Line}
use Rattle.definitions.specs.Answers.{refused, accepted}
use Rattle.definitions.specs.Calls.{Columns, filled}
use Rattle.questions.specs.Refusals.{answer_of}
use Rattle.questions.specs.declared.Refusal.{Refusal}
use Rattle.json_definitions.specs.Writer.{address_text, decimal}
use Rattle.json_definitions.specs.JsonCalls.{Written, listing_of}

abbrev pub columns : List ℕ → List ℕ → List ℕ → List ℕ → Columns
columns l a t x = record { lines = l; addresses = a; tokens = t; text = x }

abbrev pub lines_of : List ℕ → List ℕ → List ℕ → List ℕ → List Line
lines_of l a t x = listing_of (columns l a t x)

unfoldable pub head_text : Line → List ℕ
head_text l = ascii "{\"address\":" ++ (address_text l.address ++ (ascii ",\"indent\":" ++ (decimal l.indent ++ ascii ",\"tokens\":")))

abbrev pub written : Result ℕ Refusal → List ℕ → Written
written r out = record { answer = answer_of r; out = out }

-- question 4 of the text w, and what is then written
abbrev pub fourth : List ℕ → List ℕ → Written
fourth w out = if leb (length w) (length out) then record { answer = accepted (length w); out = filled w out } else record { answer = refused 4; out = out }
