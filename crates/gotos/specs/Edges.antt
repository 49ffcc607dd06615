-- The back edge as the code looks for it.
--   later o b j              the place j where b is true, else the place o
--   or_later o x             the place x, or the place o where x is none
--   back_from L h ind d j    the last line from place j on that stands at indent d and reads `goto h;`, before the first that leaves the block
-- Assumes nothing.
use Rattle.std.specs.Option.{option_map}
use Rattle.std.specs.Prelude.{if◌then◌else◌, ℕ, ◌+◌, Bool, List, drop, Option, None, Some}
use Rattle.definitions.specs.Lists.{last_position, take_while}
use Rattle.definitions.specs.Model.{Line}
use Rattle.definitions.specs.RecoverGotoLoops.{in_block, is_back}

abbrev pub later : Option ℕ → Bool → ℕ → Option ℕ
later o b j = if b then Some j else o

unfoldable pub back_from : List Line → List ℕ → ℕ → ℕ → ℕ → Option ℕ
back_from L h ind d j = option_map (j +◌) (last_position (is_back h d) (take_while (in_block ind) (drop j L)))

abbrev pub or_later : Option ℕ → Option ℕ → Option ℕ
or_later o None = o
or_later o (Some k) = Some k
