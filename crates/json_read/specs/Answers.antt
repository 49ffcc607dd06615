-- The answer of the call and the lent columns, as the definition `read_call` has them.
--   columns l a t x            the lent columns
--   answer_of r                refusal 10, or how many lines, tokens and bytes were read
--   called r l a t x           the answer and the columns at exit
-- Assumes nothing.
use Rattle.std.specs.Prelude.{ℕ, List, Option, Some, None}
use Rattle.definitions.specs.Questions.{Limits}
use Rattle.definitions.specs.Answers.{refused, accepted}
use Rattle.definitions.specs.Answers as defined
use Rattle.definitions.specs.Calls.{Columns, Passed}
use Rattle.json_listing.specs.declared.Counts.{Counts}

abbrev pub columns : List ℕ → List ℕ → List ℕ → List ℕ → Columns
columns l a t x = record { lines = l; addresses = a; tokens = t; text = x }

abbrev pub answer_of : Option Counts → defined.Answer Limits
answer_of (Some n) = accepted (record { lines = n.lines; tokens = n.tokens; text = n.text })
answer_of None = refused 10

abbrev pub called : Option Counts → List ℕ → List ℕ → List ℕ → List ℕ → Passed
called r l a t x = record { answer = answer_of r; out = columns l a t x }
