-- The numbers and marks of the tokens while families are done one after the other, in the order of their first definition.
--   webs_over L preds           the webs of every family, over the predecessor lists preds
--   waiting_at l t x f i j      what stands at token j of line i, of the family f, while its number is not known
--   number_after l t x ws k f i j    the number at token j of line i, of the family f, when the first k families are done; ws has the webs of all
--   mark_after L ws k f i j     its mark
--   family_sweeps L preds f     the sweeps of the family f, none where its address is taken
--   sweeps_before L preds k     the sweeps of the first k families together
--   Drawn L n r l               the words l hold the flow graph of the listing L
-- Assumes nothing.
use Rattle.std.specs.Prelude.{if◌then◌else◌, ℕ, ◌+◌, ◌≡◌, ◌&&◌, not, List, map, eqb, leb, take, Some}
use Rattle.definitions.specs.Lists.{filter, up_to}
use Rattle.definitions.specs.Model.{Line}
use Rattle.definitions.specs.Columns.{token_list, listing}
use Rattle.definitions.specs.FlowGraph.{flow_graph, predecessors}
use Rattle.definitions.specs.Sweeps.{sweeps}
use Rattle.definitions.specs.Recover.{Webs, def_lines, address_taken, defined_families, webs_of, key, is_def, total_sweeps}
use Rattle.definitions.specs.Answers.{mark}
use Rattle.bits.specs.Edges.{Agree, preds_of}
use Rattle.model.specs.Places.{line_start}
use Rattle.families.specs.Families.{place}
use Rattle.chains.specs.Chains.{waiting}

abbrev pub webs_over : List Line → List (List ℕ) → List Webs
webs_over L preds = map (webs_of L preds) (filter (λ f. not (address_taken L f)) (defined_families L))

abbrev pub waiting_at : List ℕ → List ℕ → List ℕ → List ℕ → ℕ → ℕ → ℕ
waiting_at l t x f i j = waiting l (token_list t x) (defined_families (listing l t x)) f (line_start l i + j)

unfoldable pub number_after : List ℕ → List ℕ → List ℕ → List Webs → ℕ → List ℕ → ℕ → ℕ → ℕ
number_after l t x ws k f i j = if leb (place (defined_families (listing l t x)) f) k then key ws f i j else waiting_at l t x f i j

unfoldable pub mark_after : List Line → List Webs → ℕ → List ℕ → ℕ → ℕ → ℕ
mark_after L ws k f i j = if leb (place (defined_families L) f) k then mark (eqb j 0 && is_def ws f i) else 0

unfoldable pub family_sweeps : List Line → List (List ℕ) → List ℕ → ℕ
family_sweeps L preds f = if address_taken L f then 0 else (sweeps preds (def_lines L f)).count

unfoldable pub sweeps_before : List Line → List (List ℕ) → ℕ → ℕ
sweeps_before L preds k = total_sweeps (map (webs_of L preds) (filter (λ f. not (address_taken L f)) (take k (defined_families L))))

pub record Drawn (L : List Line) (n r : ℕ) (l : List ℕ) : Type 0 where
  pub graph : List (List ℕ)
  pub flow : flow_graph L ≡ Some graph
  pub preds : preds_of n r l ≡ map (predecessors graph) (up_to n)
  pub agree : Agree n r l
