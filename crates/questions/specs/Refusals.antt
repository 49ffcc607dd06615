-- The limits and the refusals of the code as the definitions have them.
--   at_most m                  the code's limits
--   first_three m l t x        questions 1 to 3 of the columns
--   first_questions m l t x    their refusal
--   number r                   the number of the question that is answered no
--   refused r                  the refusal that the code answers, none for Ok
--   answer_of r                the answer of a call: what it gives, or the number of its refusal
-- Assumes nothing.
use Rattle.std.specs.Prelude.{ℕ, Bool, List, [], ◌∷◌, Option, None, Some, Result, Ok, Err}
use Rattle.questions.specs.declared.Limits.{Limits as Most}
use Rattle.questions.specs.declared.Refusal.{Refusal}
use Rattle.questions.specs.declared.Refusal.TheVariants.{TooLarge, Malformed, NotUtf8, NoRoom, NoSpace, Overflow, TooShort, UnmatchedBrace, UnknownLabel, NotJson, OverBudget}
use Rattle.definitions.specs.Questions.{Limits, question_1, question_2, question_3, refusal}
use Rattle.definitions.specs.Answers.{Answer, accepted}
use Rattle.definitions.specs.Answers as answers

abbrev pub at_most : Most → Limits
at_most m = record { lines = m.lines; tokens = m.tokens; text = m.text }

abbrev pub first_three : Limits → List ℕ → List ℕ → List ℕ → List (ℕ × Bool)
first_three m l t x = (1, question_1 m l t x) ∷ (2, question_2 l t x) ∷ (3, question_3 t x) ∷ []

abbrev pub first_questions : Limits → List ℕ → List ℕ → List ℕ → Option ℕ
first_questions m l t x = refusal (first_three m l t x)

abbrev pub number : Refusal → ℕ
number TooLarge = 1
number Malformed = 2
number NotUtf8 = 3
number NoRoom = 4
number NoSpace = 5
number Overflow = 6
number TooShort = 7
number UnmatchedBrace = 8
number UnknownLabel = 9
number NotJson = 10
number OverBudget = 13

abbrev pub refused : Result (Unit {0}) Refusal → Option ℕ
refused (Ok _) = None
refused (Err r) = Some (number r)

abbrev pub answer_of : {A : Type 0} → Result A Refusal → Answer A
answer_of (Ok x) = accepted x
answer_of (Err r) = answers.refused (number r)
