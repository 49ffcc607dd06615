-- The flow graph of a listing.
--   flow_shape, flow_length    it has the successors of each line, in order
--   steps_inside               it steps from lines of the listing to lines of the listing
--   predecessor_lists          the predecessor lists that `recover` takes from it
--   predecessors_length        one for each line
--   predecessors_enter         they say the same edges
-- Assumes nothing.
use Rattle.std.specs.Prelude.{Option, None, Some}
use Prim.Native.Nat.{ℕ, ◌<◌}
use mathlib.Core.Path.{◌≡◌, sym, ap, ◌∙◌, fun_ext}
use mathlib.Core.Logic.{inl, inr}
use mathlib.Core.Bool.{Bool, true, false, ◌&&◌, false≢true}
use mathlib.Core.List.{List, [], map}
use native.Mathlib.Omega.{arith}
use lib.Dec.{ltb}
use borrow.Author.Tests.{ltb-true}
use lib.ListN.{length, get_or, length-map, get_or-eq_default}
use Rattle.definitions.specs.Lists.{any, up_to, member, ◌>>=◌, require}
use Rattle.definitions.specs.Model.{Line}
use Rattle.definitions.specs.Blocks.{Blocks, blocks}
use Rattle.definitions.specs.FlowGraph.{successors, flow_graph, steps, predecessors, gotos_lead}
use Rattle.theory.proofs.Bools.{and_both, and_split, same_test, lt_or_ge}
use Rattle.theory.proofs.ListLaws.{member_filter, filter_passes, range_member, length_range, getD_map_up_to}
use Rattle.theory.proofs.OneDefinition.{enters, enters_inside}

pub flow_shape : (L : List Line) (G : List (List ℕ)) → flow_graph L ≡ Some G → (b : Blocks) × (G ≡ map (successors L b) (up_to (length L)))
unfolding flow_graph
flow_shape L G e = go (blocks L) (gotos_lead L) e
  where
    go : (o : Option Blocks) (g : Bool) → (o >>= λ b. require g >>= λ _. Some (map (successors L b) (up_to (length L)))) ≡ Some G
        → (b : Blocks) × (G ≡ map (successors L b) (up_to (length L)))
    go None g e = let z : ◌≡◌ {A = ℕ} 0 1 = cc in absurd (omega arith)
    go (Some b) true e = (b, cc)
    go (Some b) false e = let z : ◌≡◌ {A = ℕ} 0 1 = cc in absurd (omega arith)

abbrev pub predecessor_lists : List Line → List (List ℕ) → List (List ℕ)
predecessor_lists L G = map (predecessors G) (up_to (length L))

module _ (L : List Line) (G : List (List ℕ)) (flow : flow_graph L ≡ Some G) where
  pub flow_length : length G ≡ length L
  flow_length = let s = flow_shape L G flow in rw (s.1, length-map) (length_range 0 (length L))

  pub steps_inside : (i j : ℕ) → steps G i j ≡ true → (i < length L) × (j < length L)
  unfolding any successors
  steps_inside i j e = elim (lt_or_ge i (length L)) [
    | inl h ↦ (h, ltb-true j (length L) (filter_passes (λ j. ltb j (length L)) _ j (rw (at_line h) at e)).1)
    | inr h ↦ absurd (false≢true (rw (get_or-eq_default G [] {n = i} (omega (arith, flow_length))) at e))
  ]
    where
      at_line : i < length L → get_or G i [] ≡ successors L (flow_shape L G flow).0 i
      at_line h =
          ap (λ (g : List (List ℕ)). get_or g i []) (flow_shape L G flow).1
          ∙ getD_map_up_to (successors L (flow_shape L G flow).0) (length L) i [] h

  pub predecessors_length : length (predecessor_lists L G) ≡ length L
  predecessors_length = rw length-map (length_range 0 (length L))

  pub predecessors_enter : enters (predecessor_lists L G) ≡ steps G
  unfolding predecessors
  predecessors_enter = fun_ext (λ i. fun_ext (λ j. same_test (enters (predecessor_lists L G) i j) (steps G i j) (there i j) (back i j)))
    where
      at : (i j : ℕ) → j < length L → enters (predecessor_lists L G) i j ≡ (member i (up_to (length G)) && steps G i j)
      at i j h = ap (member i) (getD_map_up_to (predecessors G) (length L) j [] h) ∙ member_filter (λ i. steps G i j) (up_to (length G)) i

      there : (i j : ℕ) → enters (predecessor_lists L G) i j ≡ true → steps G i j ≡ true
      there i j e =
          let h : j < length L = omega (arith, enters_inside (predecessor_lists L G) i j e, predecessors_length) in
          (and_split (member i (up_to (length G))) (steps G i j) (sym (at i j h) ∙ e)).1

      back : (i j : ℕ) → steps G i j ≡ true → enters (predecessor_lists L G) i j ≡ true
      back i j e =
          let h = steps_inside i j e in
          at i j h.1 ∙ and_both (range_member i 0 (length G) (omega arith) (omega (arith, flow_length))) e
