-- Splits, to be read beside `split_points` and `Seg::Old` of pseudo_types.rs.
--   split_points L         the indent-1 definitions from line 1 on that no resolved goto crosses
--   split_key ss f i       how many of them define f up to and with line i
--   split_starts ss f i    line i is one of them and defines f
-- Assumes nothing.
use Rattle.std.specs.Option.{option_map}
use Rattle.std.specs.Prelude.{ℕ, Bool, ◌&&◌, ◌||◌, not, List, map, eqb, leb, ltb, length}
use Rattle.definitions.specs.Lists.{to_list, any, filter, count, concat, up_to, ◌≟◌}
use Rattle.definitions.specs.Model.{Line, line}
use Rattle.definitions.specs.Statements.{defines}
use Rattle.definitions.specs.FlowGraph.{jumps}
use Rattle.definitions.specs.Recover.{from_line_1}

pub record Jump : Type 0 where
  pub source : ℕ
  pub target : ℕ

unfoldable pub all_jumps : List Line → List Jump
all_jumps L = concat (map (λ i. map (λ to. record { source = i; target = to }) (jumps L i)) (up_to (length L)))

-- A goto crosses a line: it leads from before that line to it or later, or from it or later to before it.
abbrev pub crosses : ℕ → Jump → Bool
crosses k j = (ltb j.source k && leb k j.target) || (leb k j.source && ltb j.target k)

pub record Split : Type 0 where
  pub at : ℕ
  pub family : List ℕ

unfoldable pub split_points : List Line → List Split
split_points L =
    let js = all_jumps L in
    concat (map (λ k. to_list (option_map (λ f. record { at = k; family = f }) (defines (line L k))))
    (filter (λ k. eqb (line L k).indent 1 && not (any (crosses k) js)) (from_line_1 L)))

abbrev pub split_key : List Split → List ℕ → ℕ → ℕ
split_key ss f i = count (λ s. (s.family ≟ f) && leb s.at i) ss

abbrev pub split_starts : List Split → List ℕ → ℕ → Bool
split_starts ss f i = any (λ s. (s.family ≟ f) && eqb s.at i) ss
