-- The edges of all lines are the flow graph.
--   rest_next, rest_end, rest_all    the edges that are left to draw: line by line, none, all
--   lines_start, lines_next, lines_fail, lines_end    whether the gotos of all lines lead to labels: line by line
--   graph_drawn                      the matrices have the flow graph
--   graph_predecessors               and stand for its predecessor lists
--   webs_refusal_flow                questions 8 and 9 within `webs_refusal`
-- Assumes nothing.
use Rattle.std.specs.Prelude.{Option, None, Some}
use Prim.Native.Nat.{ℕ, ◌+◌, ◌<◌, ◌≤◌}
use mathlib.Core.Path.{◌≡◌, refl, sym, ap, ap₂, ◌∙◌}
use mathlib.Core.Bool.{Bool, true, false, cond, ◌&&◌, ◌||◌, or-true, or-false, and-true, and-or_distrib_right}
use mathlib.Core.List.{List, [], ◌∷◌, ◌++◌, map}
use native.Mathlib.Nat.{zero-add}
use native.Mathlib.Decide.{ℕ_discrete, dec_le}
use native.Mathlib.Omega.{arith}
use borrow.Author.Tests.{eq-eqb, ne_eqb, le-leb, lt-leb, lt-ltb}
use lib.Dec.{eqb, leb, ltb}
use lib.ListN.{length, get_or, drop}
use Rattle.definitions.specs.Lists.{is_some, any, all, filter, up_to, member}
use Rattle.definitions.specs.Model.{Line}
use Rattle.definitions.specs.Columns.{listing}
use Rattle.definitions.specs.Blocks.{Blocks, blocks}
use Rattle.definitions.specs.FlowGraph.{falls, past_end, loops_back, cases, leaves, leads, jumps, successors, gotos_lead, flow_graph, steps, predecessors}
use Rattle.definitions.specs.Answers.{webs_refusal}
use Rattle.text.proofs.Loops.{all_found, all_next, all_end}
use Rattle.model.proofs.Decode.{length_listing}
use Rattle.theory.proofs.Bools.{or_left, or_right}
use Rattle.theory.proofs.ListLaws.{member_filter, member_range, getD_range, length_range, getD_map_up_to}
use Rattle.theory.proofs.Graph.{flow_length, predecessor_lists}
use Rattle.bits.specs.Edges.{edges, preds_of, NoEdges}
use Rattle.blocks.specs.Structure.{blocks_of}
use Rattle.line_steps.specs.Drawing.{Drawn, from, back, own, line_edges, rest}
use Rattle.flow.specs.Graph.{Graph, flow_refusal}
use Rattle.line_steps.proofs.Drawings.{member_append}

-- What is left to draw

split : (i p : ℕ) → leb i p ≡ (eqb p i || leb (i + 1) p)
split i p = go (ℕ_discrete p i) (dec_le i p)
  where
    go : Dec (p ≡ i) → Dec (i ≤ p) → leb i p ≡ (eqb p i || leb (i + 1) p)
    go (yes e) d = rw (eq-eqb p i e) (le-leb i p (omega arith))
    go (no e) (yes d) = rw (ne_eqb p i e, le-leb i p d) (sym (le-leb (i + 1) p (omega arith)))
    go (no e) (no d) = rw (ne_eqb p i e, lt-leb i p (omega arith)) (sym (lt-leb (i + 1) p (omega arith)))

swap : (a b c d : Bool) → ((a || b) || (c || d)) ≡ ((a || c) || (b || d))
swap true b c d = refl
swap false true c d = sym (or-true c)
swap false false c d = refl

module _ (L : List Line) (b : Blocks) where
  pub rest_next : (i p q : ℕ) → rest L b i p q ≡ (line_edges L b i p q || rest L b (i + 1) p q)
  unfolding rest
  rest_next i p q =
      ap₂ (λ (x y : Bool). (x && member q (own L b p)) || (y && member q (loops_back L b p))) (split i p) (split i q)
      ∙ ap₂ (λ (x y : Bool). x || y)
      (and-or_distrib_right (eqb p i) (leb (i + 1) p) (member q (own L b p))) (and-or_distrib_right (eqb q i) (leb (i + 1) q) (member q (loops_back L b p)))
      ∙ ap (λ (x : Bool). (x || (leb (i + 1) p && member q (own L b p))) || ((eqb q i && member q (loops_back L b p)) || (leb (i + 1) q && member q (loops_back L b p)))) (go (ℕ_discrete p i))
      ∙ swap (from i (own L b i) p q) (leb (i + 1) p && member q (own L b p)) (back L b i p q) (leb (i + 1) q && member q (loops_back L b p))
    where
      go : Dec (p ≡ i) → (eqb p i && member q (own L b p)) ≡ from i (own L b i) p q
      go (yes e) = rw e
      go (no e) = rw (ne_eqb p i e)

  pub rest_end : (n i p q : ℕ) → n ≤ i → p < n → q < n → rest L b i p q ≡ false
  unfolding rest
  rest_end n i p q h hp hq = rw (lt-leb i p (omega arith), lt-leb i q (omega arith))

  pub rest_all : (p q : ℕ) → q < length L → rest L b 0 p q ≡ member q (successors L b p)
  unfolding rest own successors
  rest_all p q hq =
      ap₂ (λ (x y : Bool). (x && member q (own L b p)) || (y && member q (loops_back L b p))) (le-leb 0 p (omega arith)) (le-leb 0 q (omega arith))
      ∙ ap (◌|| member q (loops_back L b p))
      (member_append q (falls L b p ++ past_end b p ++ cases L b p ++ jumps L p) (leaves L b p)
      ∙ ap (◌|| member q (leaves L b p)) (member_append q (falls L b p ++ past_end b p ++ cases L b p) (jumps L p)
      ∙ ap (◌|| member q (jumps L p)) (member_append q (falls L b p ++ past_end b p) (cases L b p))))
      ∙ move (member q (falls L b p ++ past_end b p)) (member q (cases L b p)) (member q (jumps L p)) (member q (leaves L b p)) (member q (loops_back L b p))
      ∙ sym (member_filter (λ j. ltb j (length L)) (falls L b p ++ past_end b p ++ loops_back L b p ++ cases L b p ++ jumps L p ++ leaves L b p) q
      ∙ ap (member q (falls L b p ++ past_end b p ++ loops_back L b p ++ cases L b p ++ jumps L p ++ leaves L b p) &&◌) (lt-ltb q (length L) hq)
      ∙ and-true (member q (falls L b p ++ past_end b p ++ loops_back L b p ++ cases L b p ++ jumps L p ++ leaves L b p))
      ∙ member_append q (falls L b p ++ past_end b p ++ loops_back L b p ++ cases L b p ++ jumps L p) (leaves L b p)
      ∙ ap (◌|| member q (leaves L b p)) (member_append q (falls L b p ++ past_end b p ++ loops_back L b p ++ cases L b p) (jumps L p)
      ∙ ap (◌|| member q (jumps L p)) (member_append q (falls L b p ++ past_end b p ++ loops_back L b p) (cases L b p)
      ∙ ap (◌|| member q (cases L b p)) (member_append q (falls L b p ++ past_end b p) (loops_back L b p)))))
    where
      move : (f c j v l : Bool) → ((((f || c) || j) || v) || l) ≡ ((((f || l) || c) || j) || v)
      move true c j v l = refl
      move false c j v true = or-true ((c || j) || v)
      move false c j v false = or-false ((c || j) || v)

-- Question 9 of the lines from i on

unfoldable pub lines_from : List Line → ℕ → ℕ → Bool
lines_from L n i = all (λ i. all is_some (leads L i)) (drop i (up_to n))

pub lines_start : (l t x : List ℕ) → gotos_lead (listing l t x) ≡ lines_from (listing l t x) (length l) 0
unfolding lines_from gotos_lead
lines_start l t x = rw (length_listing l t x)

module _ (L : List Line) (n i : ℕ) (r : Bool) (inv : r ≡ lines_from L n i) where
  module _ (b : Bool) (q : b ≡ all is_some (leads L i)) (h : i < n) where
    here : b ≡ all is_some (leads L (get_or (up_to n) i 0))
    here = q ∙ ap (λ (k : ℕ). all is_some (leads L k)) (sym (getD_range 0 n i 0 h ∙ zero-add i))

    pub lines_next : b ≡ true → r ≡ lines_from L n (i + 1)
    unfolding lines_from
    lines_next z = all_next (λ i. all is_some (leads L i)) (up_to n) i n (sym (length_range 0 n)) r inv 0 b h here z

    pub lines_fail : b ≡ false → false ≡ r
    unfolding lines_from
    lines_fail z = all_found (λ i. all is_some (leads L i)) (up_to n) i n (sym (length_range 0 n)) r inv 0 b h here z

  pub lines_end : n ≤ i → true ≡ r
  unfolding lines_from
  lines_end h = all_end (λ i. all is_some (leads L i)) (up_to n) i n (sym (length_range 0 n)) r inv h

pub ruleset lines_leading = (lines_start, lines_next, lines_fail, lines_end)

-- The graph

module _ (L : List Line) (n r : ℕ) (l₀ l₁ l₂ : List ℕ) (en : length L ≡ n)
    (t : Bool) (u : t ≡ is_some (blocks L)) (v : t ≡ true) (k : Bool) (x : k ≡ gotos_lead L) (y : k ≡ true) where
  pub graph_drawn : NoEdges n r l₀ l₁ → Drawn n r l₁ l₂ (λ i j. member j (successors L (blocks_of L) i)) → Graph L n r l₀ l₂
  unfolding flow_graph blocks_of
  graph_drawn N D = record {
    graph = map (successors L (blocks_of L)) (up_to (length L));
    flow = flow (blocks L) refl (sym v ∙ u);
    edge = λ i j hi hj. D.edge i j hi hj ∙ ap (◌|| member j (successors L (blocks_of L) i)) (N.none i j hi hj)
        ∙ ap (member j) (sym (getD_map_up_to (successors L (blocks_of L)) (length L) i [] (omega arith)));
    agree = D.agree N.agree;
    kept = λ v h. D.kept v h ∙ N.kept v h;
  }
    where
      flow : (o : Option Blocks) → blocks L ≡ o → true ≡ is_some o → flow_graph L ≡ Some (map (successors L (blocks_of L)) (up_to (length L)))
      flow None e h = let y : ◌≡◌ {A = ℕ} 0 1 = cc in absurd (omega arith)
      flow (Some b) e h = rw (e, ← x, y)

-- the predecessor lists that the sweeps are over

map_same : {A : Type 0} (f g : ℕ → A) (xs : List ℕ) → ((x : ℕ) → member x xs ≡ true → f x ≡ g x) → map f xs ≡ map g xs
unfolding any
map_same f g [] e = refl
map_same f g (x ∷ xs) e =
    ap₂ (λ (y : _) (ys : List _). y ∷ ys) (e x (or_left (eqb x x) (member x xs) (eq-eqb x x refl)))
    (map_same f g xs (λ y m. e y (or_right (eqb y x) (member y xs) m)))

filter_same : (f g : ℕ → Bool) (xs : List ℕ) → ((x : ℕ) → member x xs ≡ true → f x ≡ g x) → filter f xs ≡ filter g xs
unfolding any filter
filter_same f g [] e = refl
filter_same f g (x ∷ xs) e =
    ap₂ (λ (b : Bool) (ys : List ℕ). cond b (x ∷ ys) ys) (e x (or_left (eqb x x) (member x xs) (eq-eqb x x refl)))
    (filter_same f g xs (λ y m. e y (or_right (eqb y x) (member y xs) m)))

pub graph_predecessors : (L : List Line) (n r : ℕ) (l₀ l : List ℕ) (G : Graph L n r l₀ l) → length L ≡ n → preds_of n r l ≡ predecessor_lists L G.graph
unfolding preds_of predecessors
graph_predecessors L n r l₀ l G e =
    map_same (λ j. filter (λ i. edges n r l i j) (up_to n)) (λ j. filter (λ i. steps G.graph i j) (up_to n)) (up_to n)
    (λ j m. filter_same (λ i. edges n r l i j) (λ i. steps G.graph i j) (up_to n)
    (λ i k. G.edge i j (omega (arith, member_range i 0 n k)) (omega (arith, member_range j 0 n m))))
    ∙ ap₂ (λ (x y : ℕ). map (λ j. filter (λ i. steps G.graph i j) (up_to x)) (up_to y)) (sym (flow_length L G.graph G.flow ∙ e)) (sym e)

-- The answers

pub webs_refusal_flow : (L : List Line) → 2 ≤ length L → webs_refusal L ≡ flow_refusal L
unfolding webs_refusal flow_refusal
webs_refusal_flow L h = rw (le-leb 2 (length L) h)
