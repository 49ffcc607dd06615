-- Columns with an entry for each line, which stands for a line or for none. An entry is 0 for none, else a line + 1.
--   place p            the line that the entry p stands for
--   entry o            the entry that stands for it
--   linked ps k p      the line of the entry p, then that of this line's entry in ps, and so on: at most k of them
-- Assumes nothing.
use Rattle.std.specs.Prelude.{ℕ, zero, suc, List, [], ◌∷◌, get_or, Option, None, Some}

abbrev pub place : ℕ → Option ℕ
place zero = None
place (suc h) = Some h

abbrev pub entry : Option ℕ → ℕ
entry None = 0
entry (Some h) = suc h

unfoldable pub linked : List ℕ → ℕ → ℕ → List ℕ
linked ps zero p = []
linked ps (suc k) zero = []
linked ps (suc k) (suc h) = h ∷ linked ps k (get_or ps h 0)
