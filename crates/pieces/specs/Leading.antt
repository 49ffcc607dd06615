-- The leading test of a piece as the code has it.
--   leading l r         the negated condition of line l that the answer r says
--   test_at ts g        the negated condition of the tokens ts before the place g of `break`, where it starts with ` (` and ends with `) `
--   tested ts           the same where the tokens are a leading test
--   kept_test l         the leading test that line l is
--   broken_test l       the one that it is where it is cut at its first goto
--   first_of o n        the place o, or n where it is none or not before n
-- Assumes nothing.
use Rattle.std.specs.Prelude.{ℕ, min, ◌&&◌, List, get_or, Option, None, Some}
use Rattle.definitions.specs.Lists.{◌>>=◌, require, position, first, last, part, on_first, starts_with, ends_with, ascii}
use Rattle.definitions.specs.Model.{Token, Line, no_token, text}
use Rattle.definitions.specs.Statements.{is_kw}
use Rattle.definitions.specs.Condition.{cut_front, cut, negate_cond}
use Rattle.negate.specs.Tests.{test}
use Rattle.pieces.specs.Pieces.{jumped}

abbrev pub leading : Line → Option ℕ → Option (List Token)
leading l (Some g) = Some (negate_cond (test l g))
leading l None = None

unfoldable pub test_at : List Token → ℕ → Option (List Token)
test_at ts g = do
  opening ← first (part 1 g ts)
  _ ← require (starts_with (ascii " (") opening.text)
  end ← last (on_first (cut_front 2) (part 1 g ts))
  _ ← require (ends_with (ascii ") ") end.text)
  Some (negate_cond (cut 2 2 (part 1 g ts)))

unfoldable pub tested : List Token → Option (List Token)
tested ts = do
  _ ← require (is_kw (ascii "if") (get_or ts 0 no_token) && ends_with (ascii ") break;") (text ts))
  g ← position (is_kw (ascii "break")) ts
  test_at ts g

abbrev pub kept_test : Line → Option (List Token)
kept_test l = tested l.tokens

abbrev pub broken_test : Line → Option (List Token)
broken_test l = tested (jumped (ascii "break") l)

abbrev pub first_of : Option ℕ → ℕ → ℕ
first_of None n = n
first_of (Some k) n = min k n
