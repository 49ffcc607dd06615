-- The public calls: what each answers and what it leaves in every lent word.
-- A refusal 1 to 5 writes nothing. A refusal 6 to 9 leaves all lent output and working memory zero. On acceptance results are packed in
-- order, what is beyond them is zero, and working space is zero.
--   pass_call      `recover_loops` or `recover_goto_loops` over columns
--   web_call, split_call, choose_call
-- Assumes nothing.
use Rattle.std.specs.Prelude.{ℕ, ◌-◌, Bool, ◌&&◌, List, [], ◌∷◌, ◌++◌, eqb, leb, length, replicate, Option, None, Some}
use Rattle.definitions.specs.Model.{Line}
use Rattle.definitions.specs.Columns.{listing, with_addresses, line_words, address_words, token_words, text_bytes}
use Rattle.definitions.specs.Questions.{Limits, limits, question_1, question_2, question_3, question_4, question_5, pass_room, refusal}
use Rattle.definitions.specs.Answers.{Answer, refused, accepted, Numbered, webs, splits, Choice, chose_webs, chose_splits, choose}

abbrev pub zeros : List ℕ → List ℕ
zeros old = replicate (length old) 0

-- the words, and zeros up to the length of what was lent
abbrev pub filled : List ℕ → List ℕ → List ℕ
filled ws old = ws ++ replicate (length old - length ws) 0

-- The loop passes: questions 1, 2, 3, 4, 6.

pub record Columns : Type 0 where
  pub lines : List ℕ
  pub addresses : List ℕ
  pub tokens : List ℕ
  pub text : List ℕ

-- the counts of lines, tokens and bytes, and the lent columns at exit
pub record Passed : Type 0 where
  pub answer : Answer Limits
  pub out : Columns

abbrev pub has_room : Columns → Columns → Bool
has_room c out =
    let room = pass_room (length c.lines) (length c.tokens) (length c.text) in
    leb room.lines (length out.lines) && leb room.lines (length out.addresses)
    && leb room.tokens (length out.tokens) && leb room.text (length out.text)

abbrev pub pass_refusal : Columns → Columns → Option ℕ
pass_refusal c out = refusal (
    (1, question_1 limits c.lines c.tokens c.text)
    ∷ (2, eqb (length c.addresses) (length c.lines) && question_2 c.lines c.tokens c.text)
    ∷ (3, question_3 c.tokens c.text)
    ∷ (4, has_room c out) ∷ [])

abbrev pub zero_columns : Columns → Columns
zero_columns out = record { lines = zeros out.lines; addresses = zeros out.addresses; tokens = zeros out.tokens; text = zeros out.text }

abbrev pub packed : List Line → Columns → Columns
packed M out = record {
  lines = filled (line_words M) out.lines;
  addresses = filled (address_words M) out.addresses;
  tokens = filled (token_words M) out.tokens;
  text = filled (text_bytes M) out.text;
}

abbrev pub counts : List Line → Limits
counts M = record { lines = length M; tokens = length (token_words M); text = length (text_bytes M) }

unfoldable pub passed : Answer (List Line) → Columns → Passed
passed (refused n) out = record { answer = refused n; out = zero_columns out }
passed (accepted M) out = record { answer = accepted (counts M); out = packed M out }

unfoldable pub pass_call : (List Line → Answer (List Line)) → Columns → Columns → Passed
pass_call pass c out = elim (pass_refusal c out) [
  | Some n ↦ record { answer = refused n; out = out }
  | None ↦ passed (pass (with_addresses c.lines c.addresses (listing c.lines c.tokens c.text))) out
]

-- Webs: questions 1, 2, 3, 4, 5, 7, 8, 9. Splits: 1, 2, 3, 4. The chooser: 1, 2, 3, 4, 5.

-- what is lent: a number and a definition byte per token, and working space (none for splits)
pub record Lent : Type 0 where
  pub numbers : List ℕ
  pub marks : List ℕ
  pub space : List ℕ

pub record Called (A : Type 0) : Type 0 where
  pub answer : Answer A
  pub lent : Lent

abbrev pub zero_lent : Lent → Lent
zero_lent o = record { numbers = zeros o.numbers; marks = zeros o.marks; space = zeros o.space }

abbrev pub written : Numbered → Lent → Lent
written r o = record { numbers = filled r.numbers o.numbers; marks = filled r.marks o.marks; space = zeros o.space }

abbrev pub listing_questions : List ℕ → List ℕ → List ℕ → Lent → List (ℕ × Bool)
listing_questions l t x o =
    (1, question_1 limits l t x) ∷ (2, question_2 l t x) ∷ (3, question_3 t x) ∷ (4, question_4 (length t) o.numbers o.marks) ∷ []

abbrev pub split_refusal : List ℕ → List ℕ → List ℕ → Lent → Option ℕ
split_refusal l t x o = refusal (listing_questions l t x o)

abbrev pub web_refusal : List ℕ → List ℕ → List ℕ → Lent → Option ℕ
web_refusal l t x o = refusal (listing_questions l t x o ++ ((5, question_5 (length l) o.space) ∷ []))

unfoldable pub webs_written : Answer Numbered → Lent → Called ℕ
webs_written (refused n) o = record { answer = refused n; lent = zero_lent o }
webs_written (accepted r) o = record { answer = accepted r.sweeps; lent = written r o }

-- answers the total number of sweeps
unfoldable pub web_call : List ℕ → List ℕ → List ℕ → Lent → Called ℕ
web_call l t x o = elim (web_refusal l t x o) [
  | Some n ↦ record { answer = refused n; lent = o }
  | None ↦ webs_written (webs (listing l t x)) o
]

unfoldable pub split_call : List ℕ → List ℕ → List ℕ → Lent → Called (Unit {0})
split_call l t x o = elim (split_refusal l t x o) [
  | Some n ↦ record { answer = refused n; lent = o }
  | None ↦ record { answer = accepted tt; lent = written (splits (listing l t x)) o }
]

-- which of the two was chosen, webs with the total number of sweeps
pub data Chosen : Type 0 where
  by_webs : ℕ → Chosen
  by_splits : Chosen

unfoldable pub chosen_written : Choice → Lent → Called Chosen
chosen_written (chose_webs r) o = record { answer = accepted (by_webs r.sweeps); lent = written r o }
chosen_written (chose_splits r) o = record { answer = accepted by_splits; lent = written r o }

unfoldable pub choose_call : List ℕ → List ℕ → List ℕ → Lent → Called Chosen
choose_call l t x o = elim (web_refusal l t x o) [
  | Some n ↦ record { answer = refused n; lent = o }
  | None ↦ chosen_written (choose (listing l t x)) o
]
