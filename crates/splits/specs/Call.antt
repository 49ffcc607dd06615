-- What the call answers and leaves, as the definitions have it.
--   lent ns ms                 what is lent: numbers and marks, and no working space
--   called r ns ms             the answer, with what is lent as the call returns
--   questions m l t x a b      questions 1 to 4, m being the bounds of question 1, a and b how many numbers and marks are lent
--   split_within m l t x o     `split_call` with the bounds m
-- Assumes nothing.
use Rattle.std.specs.Prelude.{ℕ, ◌&&◌, List, [], ◌∷◌, leb, length, Option, None, Some, Result}
use Rattle.definitions.specs.Columns.{listing}
use Rattle.definitions.specs.Questions.{Limits, question_1, question_2, question_3, refusal}
use Rattle.definitions.specs.Answers.{refused, accepted, splits}
use Rattle.definitions.specs.Calls.{Lent, Called, written}
use Rattle.questions.specs.Refusals.{answer_of}
use Rattle.questions.specs.declared.Refusal.{Refusal}

abbrev pub lent : List ℕ → List ℕ → Lent
lent ns ms = record { numbers = ns; marks = ms; space = [] }

abbrev pub called : Result (Unit {0}) Refusal → List ℕ → List ℕ → Called (Unit {0})
called r ns ms = record { answer = answer_of r; lent = lent ns ms }

unfoldable pub questions : Limits → List ℕ → List ℕ → List ℕ → ℕ → ℕ → Option ℕ
questions m l t x a b = refusal (
    (1, question_1 m l t x) ∷ (2, question_2 l t x) ∷ (3, question_3 t x) ∷ (4, leb (length t) a && leb (length t) b) ∷ [])

unfoldable pub split_within : Limits → List ℕ → List ℕ → List ℕ → Lent → Called (Unit {0})
split_within m l t x o = elim (questions m l t x (length o.numbers) (length o.marks)) [
  | Some n ↦ record { answer = refused n; lent = o }
  | None ↦ record { answer = accepted tt; lent = written (splits (listing l t x)) o }
]
