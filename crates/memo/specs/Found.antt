-- What is found of a family.
--   found fs o            none where the family o is none, else its place among fs, from 1 on, or 0 where it is none of them
-- Assumes nothing.
use Rattle.std.specs.Prelude.{ℕ, List, Option, None, Some}
use Rattle.definitions.specs.Family.{Family}
use Rattle.families.specs.Families.{place}

abbrev pub found : List (List ℕ) → Option Family → Option ℕ
found fs None = None
found fs (Some x) = Some (place fs x.name)
