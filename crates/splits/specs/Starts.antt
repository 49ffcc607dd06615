-- Split points by line, and the families that they define by number.
--   start_at L i        the family that line i defines if it is a split point
--   starts L f i        line i is a split point and defines f
--   start_place L i     the place of that family among those that have a definition, from 1 on; 0 where line i is no split point
--   Starts L ds         ds has the place of each line
--   Starting L far i reach ds    the lines before line i are done: the others have the place of the family that they define, and a line is
--                       joined with one of those before line i or a later one if it is not beyond `reach`
-- Assumes nothing.
use Rattle.std.specs.Prelude.{if◌then◌else◌, ℕ, ◌<◌, ◌≤◌, ◌≡◌, Bool, false, ◌&&◌, not, List, eqb, leb, length, get_or, Option, None, Some}
use Rattle.definitions.specs.Lists.{any, up_to, ◌≟◌}
use Rattle.definitions.specs.Model.{Line, line}
use Rattle.definitions.specs.Recover.{defined_families}
use Rattle.definitions.specs.SplitPoints.{all_jumps, crosses}
use Rattle.families.specs.Families.{defined_at, place_defined}

unfoldable pub start_at : List Line → ℕ → Option (List ℕ)
start_at L i = if eqb (line L i).indent 1 && not (any (crosses i) (all_jumps L)) then defined_at L i else None

unfoldable pub starts : List Line → List ℕ → ℕ → Bool
starts L f i = elim (start_at L i) [ None ↦ false | Some g ↦ g ≟ f ]

abbrev pub start_place : List Line → ℕ → ℕ
start_place L i = place_defined (defined_families L) (start_at L i)

pub record Starts (L : List Line) (ds : List ℕ) : Type 0 where
  pub at : (j : ℕ) → j < length L → get_or ds j 0 ≡ start_place L j

pub record Starting (L : List Line) (far : List ℕ) (i reach : ℕ) (ds : List ℕ) : Type 0 where
  pub done : (j : ℕ) → j < i → get_or ds j 0 ≡ start_place L j
  pub left : (j : ℕ) → i ≤ j → j < length L → get_or ds j 0 ≡ place_defined (defined_families L) (defined_at L j)
  pub reached : (k : ℕ) → 0 < k → leb k reach ≡ any (λ a. leb k (get_or far a 0)) (up_to i)
