-- Where the lines and tokens of the columns stand: a piece starts where the one before it ends.
--   start_from by s ws k     where piece k starts, the first starting at s; a word over `by` is where its piece ends
--   token_start t k          the first byte of token k
--   line_start l i           the first token of line i, among all tokens
--   line_end l t i           the token behind the last of line i, among all tokens
-- Assumes nothing.
use Rattle.std.specs.Prelude.{ℕ, zero, suc, ◌/◌, min, List, length, get_or}

unfoldable pub start_from : ℕ → ℕ → List ℕ → ℕ → ℕ
start_from by s ws zero = s
start_from by s ws (suc k) = get_or ws k 0 / by

abbrev pub token_start : List ℕ → ℕ → ℕ
token_start t k = start_from 256 0 t k

abbrev pub line_start : List ℕ → ℕ → ℕ
line_start l i = start_from 512 0 l i

abbrev pub line_end : List ℕ → List ℕ → ℕ → ℕ
line_end l t i = min (get_or l i 0 / 512) (length t)
