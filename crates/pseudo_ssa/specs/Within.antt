-- The web call within other bounds than question 1's and with a budget of sweeps. The public call's budget is never used up.
--   web_refusal_within m l t x o    questions 1 to 5, question 1 asked with the limits m
--   within_budget b a               a listing that needs more than b sweeps is refused
--   web_call_of m l t x o           the web call with the limits m
--   web_call_within m b l t x o     the same with at most b sweeps
-- Assumes nothing.
use Rattle.std.specs.Prelude.{if◌then◌else◌, ℕ, List, [], ◌∷◌, leb, length, Option, None, Some}
use Rattle.definitions.specs.Columns.{listing}
use Rattle.definitions.specs.Questions.{Limits, question_1, question_2, question_3, question_4, question_5, refusal}
use Rattle.definitions.specs.Answers.{Answer, refused, accepted, Numbered, webs}
use Rattle.definitions.specs.Calls.{Lent, Called, webs_written}

abbrev pub web_refusal_within : Limits → List ℕ → List ℕ → List ℕ → Lent → Option ℕ
web_refusal_within m l t x o = refusal (
    (1, question_1 m l t x) ∷ (2, question_2 l t x) ∷ (3, question_3 t x) ∷ (4, question_4 (length t) o.numbers o.marks)
    ∷ (5, question_5 (length l) o.space) ∷ [])

unfoldable pub web_call_of : Limits → List ℕ → List ℕ → List ℕ → Lent → Called ℕ
web_call_of m l t x o = elim (web_refusal_within m l t x o) [
  | Some n ↦ record { answer = refused n; lent = o }
  | None ↦ webs_written (webs (listing l t x)) o
]

-- the number of a refusal for want of budget
abbrev pub over_budget : ℕ
over_budget = 13

unfoldable pub within_budget : ℕ → Answer Numbered → Answer Numbered
within_budget b (refused n) = refused n
within_budget b (accepted r) = if leb r.sweeps b then accepted r else refused over_budget

unfoldable pub web_call_within : Limits → ℕ → List ℕ → List ℕ → List ℕ → Lent → Called ℕ
web_call_within m b l t x o = elim (web_refusal_within m l t x o) [
  | Some n ↦ record { answer = refused n; lent = o }
  | None ↦ webs_written (within_budget b (webs (listing l t x))) o
]
