-- The tokens of one family, as rules for `search`.
--   reads_rsp, reads_other                  `family_reads`
--   zeros_by                                `write_zeros`
-- Assumes nothing.
use Prim.Native.Nat.{ℕ, ◌+◌, ◌-◌, ◌<◌}
use mathlib.Core.Path.{◌≡◌, refl, sym, ◌∙◌}
use mathlib.Core.Bool.{Bool, true, false}
use mathlib.Core.List.{List, [], ◌∷◌}
use lib.Dec.{eqb}
use lib.ListN.{length, get_or, take}
use Rattle.definitions.specs.Lists.{any, filter, range}
use Rattle.definitions.specs.Model.{Line, line}
use Rattle.definitions.specs.Family.{names}
use Rattle.definitions.specs.Recover.{read_lines, read_tokens}
use Rattle.text.specs.Zeroed.{zeroed}
use Rattle.families.specs.Families.{Table}
use Rattle.families.specs.Tokens.{family_name}
use Rattle.walks.specs.Lines.{Written}
use Rattle.walks.proofs.Taken.{family_read}

-- `family_reads`

filter_none : (xs : List ℕ) → filter (λ x. false) xs ≡ []
unfolding filter
filter_none [] = refl
filter_none (x ∷ xs) = filter_none xs

module _ (L : List Line) (count k : ℕ) (t : List ℕ) (T : Table L count t) (h : k < count) (y : Bool) (e : y ≡ eqb (get_or t 255 0) (k + 1)) where
  pub reads_rsp : y ≡ true → (s : List ℕ) → take 0 s ≡ read_lines L (family_name L k)
  reads_rsp q s = sym (rw (family_read L count k t T h y e, q) (filter_none (range 1 (length L - 1))))

  pub reads_other : y ≡ false → (s : List ℕ) (m : ℕ) → take m s ≡ filter (λ i. any (names (family_name L k)) (read_tokens (line L i))) (range 1 (length L - 1)) → take m s ≡ read_lines L (family_name L k)
  reads_other q s m z = z ∙ sym (rw (family_read L count k t T h y e, q))

-- `write_zeros`

pub zeros_by : (l t x ds own read zo zr ns₀ ns : List ℕ) (k : ℕ) → zo ≡ zeroed 0 own → zr ≡ zeroed 0 read → Written l t x k ds zo zr ns₀ ns
    → Written l t x k ds (zeroed 0 own) (zeroed 0 read) ns₀ ns
zeros_by l t x ds own read zo zr ns₀ ns k a b W = rw (a, b) at W

pub ruleset token_rules = (reads_rsp, reads_other, zeros_by)
