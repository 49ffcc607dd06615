-- What is known of a listing whose families are numbered and whose tokens are chained, whatever the words of the tokens are.
--   Known l t x table first ds count    the columns are well-formed, the table finds the families, `first` has the first token of each, ds has
--                                     the family that each line defines
-- Assumes nothing.
use Rattle.std.specs.Prelude.{ℕ, ◌<◌, ◌≤◌, ◌≡◌, List, length, get_or}
use Rattle.definitions.specs.Columns.{token_list, listing}
use Rattle.families.specs.Families.{Defs}
use Rattle.families.specs.Tokens.{Finds, family_name}
use Rattle.chains.specs.Chains.{next_place, Bounds}

pub record Known (l t x table first ds : List ℕ) (count : ℕ) : Type 0 where
  pub bounds : Bounds l t
  pub some : 0 < length l
  pub finds : Finds (listing l t x) count table
  pub defs : Defs (listing l t x) ds
  pub heads : (k : ℕ) → k < count → get_or first k 0 ≡ next_place (family_name (listing l t x) k) (token_list t x) 0
  pub room : length l ≤ length ds
