-- A condition as the code has it.
--   conditional l c    the condition of line l that the answer c says
--   Within l c         the first token of the condition c has the bytes that are cut off at the front, the last those at the end
-- Assumes nothing.
use Rattle.std.specs.Prelude.{ℕ, ◌+◌, ◌-◌, ◌≤◌, ◌<◌, List, length, drop, Option, None, Some}
use Rattle.definitions.specs.Model.{Token, Line, token}
use Rattle.definitions.specs.Condition.{cut}
use Rattle.condition.specs.declared.Cut.{Cut}

abbrev pub conditional : Line → Option Cut → Option (List Token)
conditional l (Some c) = Some (cut 2 c.end (drop (c.keyword + 1) l.tokens))
conditional l None = None

pub record Bounds (l : Line) (k n : ℕ) : Type 0 where
  pub opened : k + 1 < length l.tokens
  pub front : 2 ≤ length (token l (k + 1)).text
  pub end : n ≤ length (token l (length l.tokens - 1)).text

abbrev pub Within : Line → Option Cut → Type 0
Within l (Some c) = Bounds l c.keyword c.end
Within l None = Unit {0}
