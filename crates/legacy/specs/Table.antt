-- The legacy names in a row.
--   letters cell         the name in a cell of three bytes: without a 0 at its end
--   all_names            the legacy names, row by row, and behind them ah bh ch dh
--   name_at p            the name at place p of them
--   hash s               a number that tells these names from each other
--   row_name i           the name of the family in row i of the table
-- Assumes nothing.
use Rattle.std.specs.Prelude.{if◌then◌else◌, Some, None, ℕ, ◌+◌, ◌*◌, ◌/◌, ◌%◌, List, [], ◌∷◌, ◌++◌, eqb, take, get_or, Option}
use Rattle.definitions.specs.Lists.{concat, ascii}
use Rattle.definitions.specs.Family.{legacy}

abbrev pub letters : List ℕ → List ℕ
letters cell = if eqb (get_or cell 2 0) 0 then take 2 cell else cell

unfoldable pub all_names : List (List ℕ)
all_names = concat legacy ++ (ascii "ah" ∷ ascii "bh" ∷ ascii "ch" ∷ ascii "dh" ∷ [])

abbrev pub name_at : ℕ → List ℕ
name_at p = get_or all_names p []

unfoldable pub hash : List ℕ → ℕ
hash s = (20 * get_or s 0 0 + 7 * get_or s 1 0 + 12 * get_or s 2 0) / 4 % 64

abbrev pub row_name : ℕ → List ℕ
row_name i = get_or (get_or legacy i []) 0 []
