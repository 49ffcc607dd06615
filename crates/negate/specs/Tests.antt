-- The condition of a leading test as the code has it: the tokens of a line behind its first and before place g, the first without its ` (`,
-- the last without its `) `.
--   test l g            the condition
--   test_count l g      how many tokens those are
--   front k, back m k   how many bytes are cut off the front and the end of token k of m
--   test_token l m k    token k of m with those bytes cut off
--   test_from l m k     those from token k on, the empty ones too
--   test_tokens l m     all of them
-- Assumes nothing.
use Rattle.std.specs.Prelude.{if◌then◌else◌, ℕ, ◌+◌, ◌-◌, min, List, map, eqb, length}
use Rattle.definitions.specs.Lists.{part, range}
use Rattle.definitions.specs.Model.{Token, Line, tok, token}
use Rattle.definitions.specs.Condition.{cut}

abbrev pub test : Line → ℕ → List Token
test l g = cut 2 2 (part 1 g l.tokens)

abbrev pub test_count : Line → ℕ → ℕ
test_count l g = min g (length l.tokens) - 1

abbrev pub front : ℕ → ℕ
front k = if eqb k 0 then 2 else 0

abbrev pub back : ℕ → ℕ → ℕ
back m k = if eqb (k + 1) m then 2 else 0

unfoldable pub test_token : Line → ℕ → ℕ → Token
test_token l m k =
    let t = token l (k + 1) in
    tok (part (front k) (length t.text - back m k) t.text) t.kind

unfoldable pub test_from : Line → ℕ → ℕ → List Token
test_from l m k = map (test_token l m) (range k (m - k))

abbrev pub test_tokens : Line → ℕ → List Token
test_tokens l m = test_from l m 0
