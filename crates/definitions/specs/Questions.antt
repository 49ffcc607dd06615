-- Questions 1 to 5, asked of the lent columns and of the lengths of what is lent. Questions 6 to 9 are of the listing: Answers.antt.
--   question_1 .. question_5    the answer to a question, yes being true
--   refusal qs                  the number of the first of the questions that is answered no
-- Assumes nothing.
use Rattle.std.specs.Prelude.{if◌then◌else◌, ℕ, ◌+◌, ◌*◌, ◌/◌, ◌%◌, Bool, ◌&&◌, List, [], ◌∷◌, eqb, leb, length, Option, None, Some}
use Rattle.definitions.specs.Lists.{all}
use Rattle.definitions.specs.Utf8.{is_utf8}
use Rattle.definitions.specs.Columns.{token_list}

-- 1: at most 1,024 lines, 16,384 tokens, 262,144 text bytes?

pub record Limits : Type 0 where
  pub lines : ℕ
  pub tokens : ℕ
  pub text : ℕ

abbrev pub limits : Limits
limits = record { lines = 1024; tokens = 16384; text = 262144 }

abbrev pub question_1 : Limits → List ℕ → List ℕ → List ℕ → Bool
question_1 m l t x = leb (length l) m.lines && leb (length t) m.tokens && leb (length x) m.text

-- 2: do line records cover the tokens, and tokens the text, in order without gap, kinds at most 7?

-- the ends, from start on, never fall, and the last of them is n
unfoldable pub covers : ℕ → ℕ → List ℕ → ℕ → Bool
covers by start [] n = eqb start n
covers by start (w ∷ ws) n = leb start (w / by) && covers by (w / by) ws n

abbrev pub question_2 : List ℕ → List ℕ → List ℕ → Bool
question_2 l t x = covers 512 0 l (length t) && covers 256 0 t (length x) && all (λ w. leb (w % 256) 7) t

-- 3: is each token's text UTF-8 (RFC 3629)?
abbrev pub question_3 : List ℕ → List ℕ → Bool
question_3 t x = all (λ k. is_utf8 k.text) (token_list t x)

-- 4: are outputs long enough? Passes: lines, tokens + 8 × lines, text + 32 × lines. Webs and splits: one entry per token.

abbrev pub pass_room : ℕ → ℕ → ℕ → Limits
pass_room n t x = record { lines = n; tokens = t + 8 * n; text = x + 32 * n }

abbrev pub question_4 : ℕ → List ℕ → List ℕ → Bool
question_4 tokens numbers marks = leb tokens (length numbers) && leb tokens (length marks)

-- 5: webs and chooser: working space of 4n × ceil(n/64) + 8n + 64 words of 64 bits, n lines?

abbrev pub space_words : ℕ → ℕ
space_words n = 4 * n * ((n + 63) / 64) + 8 * n + 64

abbrev pub question_5 : ℕ → List ℕ → Bool
question_5 n space = leb (space_words n) (length space)

-- A question is its number and its answer; the refusal is the number of the first that is answered no.
unfoldable pub refusal : List (ℕ × Bool) → Option ℕ
refusal [] = None
refusal (q ∷ qs) = if q.1 then refusal qs else Some q.0
