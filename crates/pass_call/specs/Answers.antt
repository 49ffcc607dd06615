-- What the call of a loop pass answers and leaves, as document 01 has it.
--   counted r         the counts of lines, tokens and bytes
--   answered r        the number of a refusal, or the counts
--   passed_with       the answer, and the lent columns
--   pass_questions    questions 1 to 4 with the bounds m of question 1
--   source c          the listing of the columns
--   room_of L         the room that question 4 asks for the listing L
--   InRoom L M        the lines M are not more than question 4 asks room for, for the listing L
--   Emitted n vs r    what a pass answers of n lines counts no more words than that, and they are sound
--   Leaves out w w'   the columns of the destination are out
--   Answers r p w w'  the answer and the columns are what the call p gives
--   Writable c out M  questions 1 to 4 are answered yes, and the lines M are not more than question 4 asks room for
-- Assumes nothing.
use Rattle.std.specs.Prelude.{ℕ, ◌≤◌, ◌≡◌, ◌&&◌, true, List, [], ◌∷◌, eqb, length, take, Option, None, Result, Ok, Err, IfOk}
use Rattle.definitions.specs.Lists.{all}
use Rattle.definitions.specs.Model.{Line}
use Rattle.definitions.specs.Columns.{listing, with_addresses, all_tokens, text_bytes}
use Rattle.definitions.specs.Questions.{Limits, question_1, question_2, question_3, pass_room, refusal}
use Rattle.definitions.specs.Answers.{Answer}
use Rattle.definitions.specs.Calls.{Columns, Passed, has_room, pass_refusal}
use Rattle.questions.specs.Refusals.{at_most, answer_of}
use Rattle.questions.specs.declared.Limits.{Limits as Most}
use Rattle.questions.specs.declared.Refusal.{Refusal}
use Rattle.plan.specs.declared.Overflow.{Overflow}
use Rattle.write.specs.Holds.{columns_of, Same}
use Rattle.write.specs.declared.Writer.{Writer}
use Rattle.emit.specs.Lines.{is_sound}

abbrev pub counted : Result Most Refusal → Result Limits Refusal
counted (Ok m) = Ok (at_most m)
counted (Err r) = Err r

abbrev pub answered : Result Most Refusal → Answer Limits
answered r = answer_of (counted r)

abbrev pub passed_with : Result Most Refusal → Columns → Passed
passed_with r out = record { answer = answered r; out = out }

abbrev pub pass_questions : Limits → Columns → Columns → Option ℕ
pass_questions m c out = refusal (
    (1, question_1 m c.lines c.tokens c.text)
    ∷ (2, eqb (length c.addresses) (length c.lines) && question_2 c.lines c.tokens c.text)
    ∷ (3, question_3 c.tokens c.text)
    ∷ (4, has_room c out) ∷ [])

abbrev pub source : Columns → List Line
source c = with_addresses c.lines c.addresses (listing c.lines c.tokens c.text)

abbrev pub room_of : List Line → Limits
room_of L = pass_room (length L) (length (all_tokens L)) (length (text_bytes L))

abbrev pub InRoom : List Line → List Line → Type 0
InRoom L M =
    (length M ≤ (room_of L).lines) × (length (all_tokens M) ≤ (room_of L).tokens) × (length (text_bytes M) ≤ (room_of L).text)

abbrev pub Emitted : ℕ → List ℕ → Result ℕ Overflow → Type 0
Emitted n vs r = IfOk r (λ m. (m ≤ n) × (all is_sound (take m vs) ≡ true))

pub record Writable (c out : Columns) (M : List Line) : Type 0 where
  pub asked : pass_refusal c out ≡ None
  pub lines : length M ≤ (room_of (source c)).lines
  pub tokens : length (all_tokens M) ≤ (room_of (source c)).tokens
  pub text : length (text_bytes M) ≤ (room_of (source c)).text

pub record Leaves (out : Columns) (w w' : Writer) : Type 0 where
  pub same : Same w w'
  pub columns : columns_of w' ≡ out

pub record Answers (r : Result Most Refusal) (p : Passed) (w w' : Writer) : Type 0 where
  pub same : Same w w'
  pub passed : passed_with r (columns_of w') ≡ p
