-- The picture of columns is that of their listing; rules for the needs of the functions of lib.rt.
--   start_is, line_same, cells_same, width_is    where a line starts, its text, its width, and the greatest width
--   nodes_same, edges_same                       the lines, the edges
--   picture_is, nodes_are                        the pieces of the picture
--   dot_drawn                                    the flow graph is drawn
--   no_flow, dot_none                            there is none
-- Assumes nothing.
use Rattle.std.specs.Prelude.{if◌then◌else◌, Option, None, Some}
use Prim.Native.Nat.{ℕ, ◌+◌, ◌*◌, ◌-◌, ◌<◌}
use mathlib.Core.Path.{◌≡◌, refl, sym, ap, ◌∙◌}
use mathlib.Core.Bool.{Bool, true, false, not}
use mathlib.Core.List.{List, [], ◌++◌, map}
use native.Mathlib.Omega.{arith}
use lib.ListN.{length}
use lib.Seq.{length-take-le}
use Rattle.definitions.specs.Lists.{◌>>=◌, require, is_some, up_to, ascii}
use Rattle.definitions.specs.Model.{Token, Line, line}
use Rattle.definitions.specs.Columns.{token_list, listing, all_tokens}
use Rattle.definitions.specs.Questions.{covers}
use Rattle.definitions.specs.Blocks.{Blocks, blocks}
use Rattle.definitions.specs.FlowGraph.{successors, gotos_lead, flow_graph, steps}
use Rattle.model.specs.Places.{line_start}
use Rattle.model.proofs.Decode.{length_listing, length_tokens, line_length}
use Rattle.model.proofs.Formed.{line_order, line_within, tokens_before, all_tokens_listing}
use Rattle.bits.specs.Edges.{succs}
use Rattle.flow.specs.Graph.{Graph, flow_refusal}
use Rattle.rows.specs.Rows.{rows}
use Rattle.dot.specs.Dot.{line_text, cells, greatest, start, width, node, edge, edges, settings, drawn, dot_text}
use Rattle.dot.specs.Held.{Ready, line_cells, widest, line_at, node_at, nodes_at, picture}
use Rattle.dot.proofs.Runs.{map_range, rows_same}

-- Lines

module _ (T : List Token) (N : List ℕ) (d a n b e : ℕ) (from : a ≡ b) (size : n ≡ e - b) where
  moved : (a + n) - a ≡ e - b
  moved = omega arith

  line_moved : line_text T N d a (a + n) ≡ line_text T N d b e
  unfolding line_text
  line_moved = rw (moved, from)

  cells_moved : cells T N d a (a + n) ≡ cells T N d b e
  unfolding cells
  cells_moved = rw (moved, from)

module _ (l t x N : List ℕ) (cover : covers 512 0 l (length t) ≡ true) where
  start_is : (i : ℕ) → i < length l → start (listing l t x) i ≡ line_start l i
  unfolding start
  start_is i h =
      let order = line_order l t cover i h in
      let within = line_within l t cover i h in
      let all = length_tokens t x in
      rw (tokens_before l t cover x i (omega arith)) (length-take-le (line_start l i) (token_list t x) (omega arith))

  line_same : (i : ℕ) → i < length l
      → line_text (all_tokens (listing l t x)) N (line (listing l t x) i).indent (start (listing l t x) i) (start (listing l t x) i + length (line (listing l t x) i).tokens)
      ≡ line_at l t x N i
  unfolding line_at
  line_same i h = rw (all_tokens_listing l t cover x) (line_moved (token_list t x) N _ _ _ _ _ (start_is i h) (line_length l t x i))

  cells_same : (i : ℕ) → i < length l
      → cells (all_tokens (listing l t x)) N (line (listing l t x) i).indent (start (listing l t x) i) (start (listing l t x) i + length (line (listing l t x) i).tokens)
      ≡ line_cells l t x N i
  unfolding line_cells
  cells_same i h = rw (all_tokens_listing l t cover x) (cells_moved (token_list t x) N _ _ _ _ _ (start_is i h) (line_length l t x i))

  width_is : width (listing l t x) N ≡ 7 * widest l t x N
  unfolding width widest
  width_is = rw (length_listing l t x) (ap (λ (m : List ℕ). 7 * greatest m) (map_range _ _ 0 (length l) (λ i h g. cells_same i (omega arith))))

  node_same : (i : ℕ) → i < length l → node (listing l t x) N i ≡ node_at l t x N (7 * widest l t x N) i
  unfolding node node_at
  node_same i h = rw (width_is, line_same i h)

  nodes_same : rows (node (listing l t x) N) 0 (length (listing l t x)) ≡ nodes_at l t x N
  unfolding nodes_at
  nodes_same = rw (length_listing l t x) (rows_same (node (listing l t x) N) (node_at l t x N (7 * widest l t x N)) 0 (length l) (λ i h g. node_same i g))

-- Edges

edges_same : (f g : ℕ → ℕ → Bool) (n : ℕ) → ((i j : ℕ) → i < n → j < n → f i j ≡ g i j) → edges f n ≡ edges g n
unfolding edges
edges_same f g n same =
    rows_same _ _ 0 n (λ i h k. rows_same (λ j. edge (f i j) i j) (λ j. edge (g i j) i j) 0 n (λ j a b. ap (λ (y : Bool). edge y i j) (same i j k b)))

-- The picture

pub picture_is : (l t x N : List ℕ) (f : ℕ → ℕ → Bool) → settings ++ (nodes_at l t x N ++ (edges f (length l) ++ ascii "}\n")) ≡ picture l t x N f
unfolding picture
picture_is l t x N f = refl

pub nodes_are : (l t x N : List ℕ) (m : ℕ) → m ≡ widest l t x N → rows (node_at l t x N (7 * m)) 0 (length l) ≡ nodes_at l t x N
unfolding nodes_at
nodes_are l t x N m q = rw (← q)

no_graph : (L : List Line) (n : ℕ) (o : Option Blocks) (y : Bool) → (if not (is_some o) then Some 8 else if not y then Some 9 else None) ≡ Some n
    → (o >>= (λ b. require y >>= (λ z. Some (map (successors L b) (up_to (length L)))))) ≡ None
no_graph L n None y q = refl
no_graph L n (Some b) false q = refl
no_graph L n (Some b) true q = let z : ◌≡◌ {A = ℕ} 0 1 = cc in absurd (omega arith)

no_flow : (L : List Line) (n : ℕ) → flow_refusal L ≡ Some n → flow_graph L ≡ None
unfolding flow_graph flow_refusal
no_flow L n q = no_graph L n (blocks L) (gotos_lead L) q

module _ (l t x N : List ℕ) where
  pub dot_drawn : (space ranks s : List ℕ) → Ready l t x space ranks → Graph (listing l t x) (length l) 17 space s
      → picture l t x N (succs (length l) 17 s) ≡ dot_text (listing l t x) N
  unfolding dot_text drawn picture
  dot_drawn space ranks s ready g =
      let step = edges_same (succs (length l) 17 s) (steps g.graph) (length l) (λ i j a b. g.agree.both i j a b ∙ g.edge i j a b) in
      rw (g.flow, nodes_same l t x N ready.cover, length_listing l t x, ← step)

  pub dot_none : (n : ℕ) → Some n ≡ flow_refusal (listing l t x) → [] ≡ dot_text (listing l t x) N
  unfolding dot_text drawn
  dot_none n q = rw (no_flow (listing l t x) n (sym q))
