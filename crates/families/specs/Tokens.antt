-- The families that have a definition, by number.
--   Finds L count t     the table t finds every family of the listing L that has a definition: there are `count`
--   family_name L k     the name of family number k
-- Assumes nothing.
use Rattle.std.specs.Prelude.{ℕ, ◌≤◌, ◌≡◌, List, [], length, get_or}
use Rattle.definitions.specs.Model.{Line}
use Rattle.definitions.specs.Recover.{defined_families}
use Rattle.families.specs.Families.{Table}

pub record Finds (L : List Line) (count : ℕ) (t : List ℕ) : Type 0 where
  pub table : Table L count t
  pub all : count ≡ length (defined_families L)
  pub few : count ≤ 1024

-- the name of family number k
abbrev pub family_name : List Line → ℕ → List ℕ
family_name L k = get_or (defined_families L) k []
