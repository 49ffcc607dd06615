-- The flow graph as the code draws it, and its refusal.
--   Graph L n r l₀ l           the words l have the flow graph of L in the two matrices, and are as l₀ behind them
--   flow_refusal L             questions 8 and 9: does every brace match, and does every goto lead to a label?
-- Assumes nothing.
use Rattle.std.specs.Prelude.{if◌then◌else◌, ℕ, ◌+◌, ◌*◌, ◌<◌, ◌≤◌, ◌≡◌, not, List, get_or, Option, None, Some}
use Rattle.definitions.specs.Lists.{is_some}
use Rattle.definitions.specs.Model.{Line}
use Rattle.definitions.specs.Blocks.{blocks}
use Rattle.definitions.specs.FlowGraph.{gotos_lead, flow_graph, steps}
use Rattle.bits.specs.Edges.{edges, Agree}

pub record Graph (L : List Line) (n r : ℕ) (l₀ l : List ℕ) : Type 0 where
  pub graph : List (List ℕ)
  pub flow : flow_graph L ≡ Some graph
  pub edge : (i j : ℕ) → i < n → j < n → edges n r l i j ≡ steps graph i j
  pub agree : Agree n r l
  pub kept : (v : ℕ) → n * r + n * r ≤ v → get_or l v 0 ≡ get_or l₀ v 0

unfoldable pub flow_refusal : List Line → Option ℕ
flow_refusal L = if not (is_some (blocks L)) then Some 8 else if not (gotos_lead L) then Some 9 else None
