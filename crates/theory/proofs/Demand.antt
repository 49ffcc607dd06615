-- Demand 3, of every listing that the web call accepts.
--   accepted_fits     the answered numbers fit: each definition's number stands at its token and at every read that it reaches
--   accepted_chains   two definitions of a family whose address is not taken have one number exactly if a chain links them
--   accepted_runs     both runs read the same values
--   demand_3          the last two together: the whole of demand 3
-- Assumes nothing.
use Rattle.std.specs.Prelude.{Some}
use Prim.Native.Nat.{ℕ, zero, suc}
use mathlib.Core.Path.{◌≡◌, sym, ap, ◌∙◌}
use mathlib.Core.Logic.{inl, inr}
use mathlib.Core.Bool.{true, false, ◌&&◌}
use mathlib.Core.List.{List}
use native.Mathlib.Omega.{arith}
use lib.Dec.{eqb}
use Rattle.definitions.specs.Lists.{is_some}
use Rattle.definitions.specs.Model.{Line, line}
use Rattle.definitions.specs.Family.{names}
use Rattle.definitions.specs.FlowGraph.{flow_graph, steps}
use Rattle.definitions.specs.Recover.{is_read_family, key}
use Rattle.definitions.specs.Reaching.{is_definition, Reaches}
use Rattle.definitions.specs.Answers.{accepted, Numbered, webs}
use Rattle.definitions.specs.Runs.{number_at}
use Rattle.definitions.specs.Demand3.{defines_at, definition_number, ChainNumbers, TwoRuns, Demand3}
use Rattle.theory.proofs.Bools.{clash, not_so, and_both, and_split}
use Rattle.theory.proofs.Paths.{definition_cases, reaches_pos}
use Rattle.theory.proofs.Graph.{steps_inside}
use Rattle.theory.proofs.Tokens.{token_at, token_inside}
use Rattle.theory.proofs.Lines.{defined_token, names_true, defines_first, line_defines, token_read}
use Rattle.theory.proofs.Accepted.{accepted_lines, all_webs, number_family, number_of, key_definition, key_read, number_of_entry, number_of_iff}
use Rattle.theory.proofs.TwoRuns.{Fits, two_runs}

module _ (L : List Line) (G : List (List ℕ)) (r : Numbered) (e : webs L ≡ accepted r) (flow : flow_graph L ≡ Some G) where
  abbrev number : List ℕ → ℕ → ℕ
  number f d = number_of L G (accepted_lines L r e) flow f d

  definition_token : (f : List ℕ) (i : ℕ) → defines_at L f i ≡ true → number_at L r.numbers i 0 ≡ number f i
  definition_token f i δ =
      let x = defines_first (line L i) f (line_defines L f i δ) in
      number_family L G r e flow i 0 x.0 x.1 ∙ ap (λ (g : List ℕ). key (all_webs L G) g i 0) x.2
      ∙ key_definition L G (accepted_lines L r e) flow f i δ

  read_token : (f : List ℕ) (i k d : ℕ) → is_read_family f ≡ true → names f (token_at L i k) ≡ true
      → defined_token (line L i) k ≡ false → Reaches (steps G) (defines_at L f) d i → number_at L r.numbers i k ≡ number f d
  read_token f i k d rf n free q =
      let x = names_true f (token_at L i k) n in
      let b = token_inside L i k x.0 x.1 in
      number_family L G r e flow i k x.0 x.1 ∙ ap (λ (g : List ℕ). key (all_webs L G) g i k) x.2
      ∙ key_read L G (accepted_lines L r e) flow f i k d (token_read L f i k (reaches_pos q) b.0 b.1 rf n free) (not_so _ undefined) q
    where
      undefined : (eqb k 0 && defines_at L f i) ≡ true → ⊥
      undefined s =
          let z = and_split (eqb k 0) (defines_at L f i) s in
          clash (and_both z.0 (ap is_some (line_defines L f i z.1))) free

  pub accepted_fits : Fits L G r.numbers
  accepted_fits = record {
    number = number;
    entry = number_of_entry L G (accepted_lines L r e) flow;
    definition = definition_token;
    read = read_token;
  }

  definition_number_is : (f : List ℕ) (d : ℕ) → is_definition (defines_at L f) d ≡ true → definition_number L r.numbers d ≡ number f d
  definition_number_is f zero s = sym (number_of_entry L G (accepted_lines L r e) flow f)
  definition_number_is f (suc i) s = elim (definition_cases (defines_at L f) (suc i) s) [
    | inl h ↦ absurd (omega arith)
    | inr h ↦ definition_token f (suc i) h
  ]

  pub accepted_chains : ChainNumbers L G r.numbers
  accepted_chains f a b kept sa sb =
      rw (definition_number_is f a sa, definition_number_is f b sb) (number_of_iff L G (accepted_lines L r e) flow f a b kept sa sb)

  pub accepted_runs {ℓ} : TwoRuns {ℓ} L G r.numbers
  accepted_runs Value = two_runs L G r.numbers accepted_fits (λ i j s. (steps_inside L G flow i j s).1)

pub demand_3 {ℓ} : Demand3 {ℓ}
demand_3 L G r e flow = (accepted_runs L G r e flow, accepted_chains L G r e flow)
