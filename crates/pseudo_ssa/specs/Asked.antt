-- What is known of the lent columns after the questions.
--   Asked    questions 1 to 5 are answered yes
--   Ready    questions 7 to 9 too, and the flow graph is drawn
-- Assumes nothing.
use Rattle.std.specs.Prelude.{ℕ, ◌≤◌, ◌≡◌, true, List, length, None}
use Rattle.definitions.specs.Columns.{listing}
use Rattle.definitions.specs.Questions.{question_2, space_words}
use Rattle.definitions.specs.Answers.{webs_refusal}
use Rattle.bits.specs.Edges.{row_words}
use Rattle.webs.specs.Progress.{Drawn}

pub record Asked (l t x numbers marks space : List ℕ) : Type 0 where
  pub lines : length l ≤ 1024
  pub tokens : length t ≤ 16384
  pub formed : question_2 l t x ≡ true
  pub numbers_room : length t ≤ length numbers
  pub marks_room : length t ≤ length marks
  pub space_room : space_words (length l) ≤ length space

pub record Ready (l t x numbers marks space : List ℕ) (r : ℕ) : Type 0 where
  pub asked : Asked l t x numbers marks space
  pub row : r ≡ row_words (length l)
  pub two : 2 ≤ length l
  pub accepted : webs_refusal (listing l t x) ≡ None
  pub drawn : Drawn (listing l t x) (length l) r space
