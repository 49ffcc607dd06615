-- Texts as numbers.
--   digit p b       the number p and a byte behind it
--   pack s          a text as one number, its bytes behind a 1: no two have the same
--   Bytes s         the elements of s are bytes
-- Assumes nothing.
use Rattle.std.specs.Prelude.{ℕ, ◌+◌, ◌*◌, List, get_or}
use Rattle.std.specs.Int.{w8}
use Rattle.std.proofs.Common.{Fits}
use Rattle.definitions.specs.Lists.{fold}

abbrev pub digit : ℕ → ℕ → ℕ
digit p b = p * 256 + b

unfoldable pub pack : List ℕ → ℕ
pack s = fold digit 1 s

abbrev pub Bytes : List ℕ → Type 0
Bytes s = (k : ℕ) → Fits w8 (get_or s k 0)
