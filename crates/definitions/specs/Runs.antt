-- The two runs of demand 3, over a listing and a list of its lines.
--   reads_on L i               the reads of line i in token order: each its token's place on the line and its family
--   named_on L i f             line i names the family f by a register token whose whole text has it, rsp and `var_` excepted
--   number_at L numbers i k    the number answered for token k of line i
--   family_run                 the values read with one cell per family
--   web_run                    the values read with one cell per family and web number
-- The rule takes a place in the list, the values read there and a family, and gives the family a new value or none: a value may be of any
-- universe, so that is the `Option` of mathlib.
-- Assumes nothing.
use Rattle.std.proofs.Math.Option as maybe
use Rattle.std.specs.Prelude.{ℕ, suc, ◌+◌, Bool, cond, ◌&&◌, not, List, [], ◌∷◌, ◌++◌, map, eqb, length, take, get_or, None, Some}
use Rattle.definitions.specs.Lists.{is_some, or_else, any, position, concat, up_to}
use Rattle.definitions.specs.Model.{Line, token, line}
use Rattle.definitions.specs.Family.{fam_of, names}
use Rattle.definitions.specs.Statements.{defines}
use Rattle.definitions.specs.Columns.{all_tokens}
use Rattle.definitions.specs.Recover.{is_read_family}

-- The tokens of a line, per family

pub record Read : Type 0 where
  pub place : ℕ
  pub family : List ℕ

-- token k of line l as a read: it has a family, neither rsp nor `var_`, and is not the register that the line defines
unfoldable pub read_at : Line → ℕ → List Read
read_at l k = elim (fam_of (token l k)) [
  | None ↦ []
  | Some x ↦ cond (is_read_family x.name && not (eqb k 0 && is_some (defines l))) (record { place = k; family = x.name } ∷ []) []
]

unfoldable pub reads_on : List Line → ℕ → List Read
reads_on L i = concat (map (read_at (line L i)) (up_to (length (line L i).tokens)))

abbrev pub named_on : List Line → ℕ → List ℕ → Bool
named_on L i f = is_read_family f && any (names f) (line L i).tokens

-- the place of the family's first token on the line
abbrev pub first_on : List Line → ℕ → List ℕ → ℕ
first_on L i f = or_else (position (names f) (line L i).tokens) 0

abbrev pub number_at : List Line → List ℕ → ℕ → ℕ → ℕ
number_at L numbers i k = get_or numbers (length (all_tokens (take i L)) + k) 0

-- The runs. Line 0, at place 0, does nothing. A later visit reads its line's reads in token order, then stores the rule's values.

module _ {ℓ} {Value : Type ℓ} (L : List Line) (rule : ℕ → List Value → List ℕ → maybe.Option Value) where
  -- the values that the rule gives at place k, line i, where vs were read; none to a family that the line does not name
  abbrev pub given : ℕ → ℕ → List Value → List ℕ → maybe.Option Value
  given k i vs f = cond (named_on L i f) (rule k vs f) maybe.none

  abbrev pub family_values : (List ℕ → Value) → ℕ → List Value
  family_values cells i = map (λ r. cells r.family) (reads_on L i)

  abbrev pub family_store : ℕ → ℕ → List Value → (List ℕ → Value) → List ℕ → Value
  family_store k i vs cells f = maybe.get_or (given k i vs f) (cells f)

  unfoldable pub family_run_from : ℕ → (List ℕ → Value) → List ℕ → List Value
  family_run_from k cells [] = []
  family_run_from k cells (i ∷ is) =
      let vs = family_values cells i in
      vs ++ family_run_from (suc k) (family_store k i vs cells) is

  unfoldable pub family_run : (List ℕ → Value) → List ℕ → List Value
  family_run cells [] = []
  family_run cells (i ∷ is) = family_run_from 1 cells is

  module _ (numbers : List ℕ) where
    -- A read takes the cell of its token's web number.
    abbrev pub web_values : (List ℕ → ℕ → Value) → ℕ → List Value
    web_values cells i = map (λ r. cells r.family (number_at L numbers i r.place)) (reads_on L i)

    -- A store takes the cell of the number at the family's first token on the line.
    abbrev pub web_store : ℕ → ℕ → List Value → (List ℕ → ℕ → Value) → List ℕ → ℕ → Value
    web_store k i vs cells f w =
        cond (eqb w (number_at L numbers i (first_on L i f))) (maybe.get_or (given k i vs f) (cells f w)) (cells f w)

    unfoldable pub web_run_from : ℕ → (List ℕ → ℕ → Value) → List ℕ → List Value
    web_run_from k cells [] = []
    web_run_from k cells (i ∷ is) =
        let vs = web_values cells i in
        vs ++ web_run_from (suc k) (web_store k i vs cells) is

    unfoldable pub web_run : (List ℕ → ℕ → Value) → List ℕ → List Value
    web_run cells [] = []
    web_run cells (i ∷ is) = web_run_from 1 cells is
