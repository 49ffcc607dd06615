-- How long the text of a listing is, without the text.
--   ends n            the brackets and commas of an array of n elements are as many as its elements and this
--   token_size t      a token's text with a "," but without the bytes of its string
--   head_size l       a line's text with a "," but without its tokens' texts
--   Formed l a t x    what questions 1 and 2 say of the columns
-- Assumes nothing.
use Rattle.std.specs.Prelude.{ℕ, zero, suc, ◌+◌, ◌≤◌, ◌≡◌, true, List, length}
use Rattle.definitions.specs.Model.{Token, Line}
use Rattle.definitions.specs.Questions.{question_2}
use Rattle.json_definitions.specs.Writer.{kind_text}
use Rattle.json_write.specs.Answers.{head_text}

unfoldable pub ends : ℕ → ℕ
ends zero = 2
ends (suc n) = 1

abbrev pub token_size : Token → ℕ
token_size t = 14 + length (kind_text t.kind)

unfoldable pub head_size : Line → ℕ
head_size l = 2 + (length (head_text l) + ends (length l.tokens))

pub record Formed (l a t x : List ℕ) : Type 0 where
  pub addresses : length a ≡ length l
  pub lines : length l ≤ 1024
  pub tokens : length t ≤ 16384
  pub text : length x ≤ 262144
  pub covered : question_2 l t x ≡ true
