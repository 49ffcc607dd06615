-- The command as a function from the bytes that it reads to what it prints, or to the number of its refusal.
--   text_of s out, told r out     what is said, and what the answer r says, with what stands in the slice `out`
--   rows_of l t x c               the rows of the answer c of a call that numbers the tokens of the columns l, t, x
--   chosen_line a                 the first line of the chooser's answer
--   webs_answer, splits_answer, choose_answer    what a word answers to a listing in columns
--   Passing l t x                 the columns pass questions 1 and 2
--   within s                      a text of at most 4,194,304 bytes, as many as are read; refusal 4 where it is longer
--   picture_of l t x c            the picture with the web numbers of the answer c
--   dot_answer l t x              what the word `dot` answers to a listing in columns
--   json_answer out c             the JSON of the listing in the columns c, in a slice that holds `out` before
--   after f p                     what f answers to the columns that a call left, or the refusal of the call
--   pass_answer P out c           the JSON of what the pass P makes of the columns c
--   passes_answer out c           the JSON of what the loop pass makes of what the goto pass makes of them
--   pass_in P lent .., passes_in lent .., answer_in lent ..    the same with the columns `lent` lent
--   word_answer w out c           what the word w answers; `check` prints as it goes, and nothing after that
--   answer w out n                what the word w answers to the first n bytes of the slice
-- Assumes nothing.
use Rattle.std.specs.Prelude.{if◌then◌else◌, ℕ, ◌≡◌, true, List, [], ◌++◌, leb, length, take, Result, Ok, Err}
use Rattle.definitions.specs.Lists.{ascii}
use Rattle.definitions.specs.Columns.{listing}
use Rattle.definitions.specs.Questions.{Limits, limits, question_1, question_2}
use Rattle.definitions.specs.Model.{Line}
use Rattle.definitions.specs.Answers.{Answer, refused, accepted, loops, goto_loops}
use Rattle.definitions.specs.Calls.{Columns, Passed, Called, Chosen, by_webs, by_splits, pass_call, web_call, split_call, choose_call}
use Rattle.questions.specs.Refusals.{number}
use Rattle.questions.specs.declared.Refusal.{Refusal}
use Rattle.json_definitions.specs.JsonCalls.{Written, read_call, write_call}
use Rattle.rows.specs.Rows.{all_rows}
use Rattle.dot.specs.Dot.{dot_text}
use Rattle.javrenzu.specs.Room.{room, lent_room, split_room, pass_room}
use Rattle.javrenzu.specs.declared.calls.Said.{Said}
use Rattle.javrenzu.specs.declared.calls.Said.TheVariants.{Text, ByWebs, BySplits}
use Rattle.javrenzu.specs.declared.command_words.Word.{Word}
use Rattle.javrenzu.specs.declared.command_words.Word.TheVariants.{Webs, Splits, Choose, RecoverLoops, RecoverGotoLoops, Passes, Dot, Check, Help}

abbrev pub text_of : Said → List ℕ → List ℕ
text_of (Text e) out = take e out
text_of (ByWebs e) out = ascii "webs\n" ++ take e out
text_of (BySplits e) out = ascii "splits\n" ++ take e out

abbrev pub told : Result Said Refusal → List ℕ → Answer (List ℕ)
told (Ok s) out = accepted (text_of s out)
told (Err r) out = refused (number r)

-- Rows

unfoldable pub rows_of : {A : Type 0} → List ℕ → List ℕ → List ℕ → (A → List ℕ) → Called A → Answer (List ℕ)
rows_of l t x head c = elim c.answer [ refused n ↦ refused n | accepted a ↦ accepted (head a ++ all_rows l t x c.lent.numbers c.lent.marks) ]

abbrev pub chosen_line : Chosen → List ℕ
chosen_line (by_webs sweeps) = ascii "webs\n"
chosen_line by_splits = ascii "splits\n"

unfoldable pub webs_answer : List ℕ → List ℕ → List ℕ → Answer (List ℕ)
webs_answer l t x = rows_of l t x (λ sweeps. []) (web_call l t x lent_room)

unfoldable pub splits_answer : List ℕ → List ℕ → List ℕ → Answer (List ℕ)
splits_answer l t x = rows_of l t x (λ _. []) (split_call l t x split_room)

unfoldable pub choose_answer : List ℕ → List ℕ → List ℕ → Answer (List ℕ)
choose_answer l t x = rows_of l t x chosen_line (choose_call l t x lent_room)

-- Pictures

pub record Passing (l t x : List ℕ) : Type 0 where
  pub small : question_1 limits l t x ≡ true
  pub formed : question_2 l t x ≡ true

unfoldable pub within : List ℕ → Answer (List ℕ)
within s = if leb (length s) 4194304 then accepted s else refused 4

unfoldable pub picture_of : List ℕ → List ℕ → List ℕ → Called ℕ → Answer (List ℕ)
picture_of l t x c = elim c.answer [ refused n ↦ refused n | accepted sweeps ↦ within (dot_text (listing l t x) c.lent.numbers) ]

unfoldable pub dot_answer : List ℕ → List ℕ → List ℕ → Answer (List ℕ)
dot_answer l t x = picture_of l t x (web_call l t x lent_room)

-- JSON

abbrev pub cut : Limits → Columns → Columns
cut n c = record { lines = take n.lines c.lines; addresses = take n.lines c.addresses; tokens = take n.tokens c.tokens; text = take n.text c.text }

unfoldable pub written_text : Written → Answer (List ℕ)
written_text w = elim w.answer [ refused n ↦ refused n | accepted e ↦ accepted (take e w.out) ]

abbrev pub json_answer : List ℕ → Columns → Answer (List ℕ)
json_answer out c = written_text (write_call c out)

-- Passes

unfoldable pub after : (Columns → Answer (List ℕ)) → Passed → Answer (List ℕ)
after f p = elim p.answer [ refused n ↦ refused n | accepted n ↦ f (cut n p.out) ]

abbrev pub pass_in : (List Line → Answer (List Line)) → Columns → List ℕ → Columns → Answer (List ℕ)
pass_in P lent out c = after (json_answer out) (pass_call P c lent)

abbrev pub pass_answer : (List Line → Answer (List Line)) → List ℕ → Columns → Answer (List ℕ)
pass_answer P out c = pass_in P pass_room out c

-- the goto pass with these columns lent
abbrev pub passes_in : Columns → List ℕ → Columns → Answer (List ℕ)
passes_in lent out c = after (pass_answer loops out) (pass_call goto_loops c lent)

abbrev pub passes_answer : List ℕ → Columns → Answer (List ℕ)
passes_answer out c = passes_in pass_room out c

-- The command

abbrev pub word_answer : Word → List ℕ → Columns → Answer (List ℕ)
word_answer Webs out c = webs_answer c.lines c.tokens c.text
word_answer Splits out c = splits_answer c.lines c.tokens c.text
word_answer Choose out c = choose_answer c.lines c.tokens c.text
word_answer RecoverLoops out c = pass_answer loops out c
word_answer RecoverGotoLoops out c = pass_answer goto_loops out c
word_answer Passes out c = passes_answer out c
word_answer Dot out c = dot_answer c.lines c.tokens c.text
word_answer Check out c = accepted []
word_answer Help out c = accepted []

unfoldable pub read_answer : Word → List ℕ → Passed → Answer (List ℕ)
read_answer w out p = elim p.answer [ refused n ↦ refused n | accepted n ↦ word_answer w out (cut n p.out) ]

-- with these columns lent to the reader
abbrev pub answer_in : Columns → Word → List ℕ → ℕ → Answer (List ℕ)
answer_in lent w out n = read_answer w out (read_call (take n out) lent)

abbrev pub answer : Word → List ℕ → ℕ → Answer (List ℕ)
answer w out n = answer_in room w out n
