-- A condition as the code reads it: the tokens behind a keyword, the first and the last of them cut.
--   text_from l j          the texts of the tokens of line l from place j on, one after the other
--   cut_token l k n j      token j of line l as token of the condition behind place k, of which n bytes are cut off at the end
--   cut_run l k n j        such tokens from place j on
--   same_text c d          both are conditions, with the same text
--   same_condition l m     line l has a condition behind if, line m one behind while, and both have the same text
-- Assumes nothing.
use Rattle.std.specs.Prelude.{if◌then◌else◌, ℕ, ◌+◌, ◌-◌, Bool, false, List, map, eqb, length, drop, Option, None, Some}
use Rattle.definitions.specs.Lists.{part, range, ◌≟◌, ascii}
use Rattle.definitions.specs.Model.{Token, Line, tok, token, text}
use Rattle.definitions.specs.Condition.{condition}

abbrev pub text_from : Line → ℕ → List ℕ
text_from l j = text (drop j l.tokens)

abbrev pub front : ℕ → ℕ → ℕ
front k j = if eqb j (k + 1) then 2 else 0

abbrev pub back : ℕ → ℕ → ℕ → ℕ
back m n j = if eqb (j + 1) m then n else 0

unfoldable pub cut_token : Line → ℕ → ℕ → ℕ → Token
cut_token l k n j = tok (part (front k j) (length (token l j).text - back (length l.tokens) n j) (token l j).text) (token l j).kind

unfoldable pub cut_run : Line → ℕ → ℕ → ℕ → List Token
cut_run l k n j = map (cut_token l k n) (range j (length l.tokens - j))

abbrev pub same_text : Option (List Token) → Option (List Token) → Bool
same_text None d = false
same_text (Some c) None = false
same_text (Some c) (Some d) = text c ≟ text d

abbrev pub same_condition : Line → Line → Bool
same_condition l m = same_text (condition l (ascii "if")) (condition m (ascii "while"))
