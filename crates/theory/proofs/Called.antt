-- Demand 3 of the words that the calls leave: the lent numbers at exit of a web call that accepts, or of a chooser that chose webs.
--   Demand3Of L numbers    both halves of demand 3, of these numbers
--   filled_demand            zeros behind the answered numbers change nothing
--   web_call_demand          the web call
--   choose_call_demand       the chooser
-- Assumes nothing.
use Rattle.std.specs.Prelude.{Option, None, Some}
use Prim.Native.Nat.{ℕ, zero, suc, ◌-◌}
use mathlib.Core.Path.{◌≡◌, refl, ◌∙◌}
use mathlib.Core.List.{List, [], ◌∷◌, ◌++◌}
use native.Mathlib.Omega.{arith}
use lib.ListN.{length, get_or, replicate}
use Rattle.definitions.specs.Model.{Line}
use Rattle.definitions.specs.FlowGraph.{flow_graph}
use Rattle.definitions.specs.Columns.{listing}
use Rattle.definitions.specs.Answers.{Answer, refused, accepted, Numbered, webs, Choice, chose_webs, chose_splits, choose, splits}
use Rattle.definitions.specs.Runs.{number_at}
use Rattle.definitions.specs.Demand3.{definition_number, TwoRuns, ChainNumbers}
use Rattle.definitions.specs.Calls.{Lent, Called, filled, web_refusal, webs_written, web_call, Chosen, by_webs, chosen_written, choose_call}
use Rattle.theory.proofs.ListLaws.{replicate_default}
use Rattle.theory.proofs.Graph.{steps_inside}
use Rattle.theory.proofs.TwoRuns.{Fits, two_runs}
use Rattle.theory.proofs.Demand.{accepted_fits, accepted_chains}

abbrev pub Demand3Of {ℓ} : List Line → List ℕ → Type (ℓ + 1)
Demand3Of L numbers = (G : List (List ℕ)) → flow_graph L ≡ Some G → TwoRuns {ℓ} L G numbers × ChainNumbers L G numbers

-- Zeros behind the numbers

padded_at : (ns : List ℕ) (m j : ℕ) → get_or (ns ++ replicate m 0) j 0 ≡ get_or ns j 0
padded_at [] m j = replicate_default m j 0
padded_at (n ∷ ns) m zero = refl
padded_at (n ∷ ns) m (suc j) = padded_at ns m j

pub filled_demand {ℓ} : (L : List Line) (r : Numbered) (old : List ℕ) → webs L ≡ accepted r → Demand3Of {ℓ} L (filled r.numbers old)
filled_demand L r old e G flow = (
  λ Value. two_runs L G (filled r.numbers old) fits (λ i j s. (steps_inside L G flow i j s).1),
  λ f a b kept sa sb. rw (definition_at a, definition_at b) (accepted_chains L G r e flow f a b kept sa sb),
)
  where
    same_at : (i k : ℕ) → number_at L (filled r.numbers old) i k ≡ number_at L r.numbers i k
    same_at i k = padded_at r.numbers (length old - length r.numbers) _

    fits : Fits L G (filled r.numbers old)
    fits = let w = accepted_fits L G r e flow in record {
      number = w.number;
      entry = w.entry;
      definition = λ f i δ. same_at i 0 ∙ w.definition f i δ;
      read = λ f i k d rf n free q. same_at i k ∙ w.read f i k d rf n free q;
    }

    definition_at : (d : ℕ) → definition_number L (filled r.numbers old) d ≡ definition_number L r.numbers d
    definition_at zero = refl
    definition_at (suc i) = same_at (suc i) 0

-- The calls

module _ (l t x : List ℕ) (o : Lent) where
  pub web_call_demand {ℓ} : (s : ℕ) → (web_call l t x o).answer ≡ accepted s → Demand3Of {ℓ} (listing l t x) (web_call l t x o).lent.numbers
  unfolding web_call webs_written
  web_call_demand s e = asked (web_refusal l t x o) e
    where
      called : Option ℕ → Called ℕ
      called q = elim q [ Some n ↦ record { answer = refused n; lent = o } | None ↦ webs_written (webs (listing l t x)) o ]

      answered : (a : Answer Numbered) → webs (listing l t x) ≡ a → (webs_written a o).answer ≡ accepted s
          → Demand3Of {ℓ} (listing l t x) (webs_written a o).lent.numbers
      answered (refused n) q e = let z : ◌≡◌ {A = ℕ} 0 1 = cc in absurd (omega arith)
      answered (accepted r) q e = filled_demand (listing l t x) r o.numbers q

      asked : (q : Option ℕ) → (called q).answer ≡ accepted s → Demand3Of {ℓ} (listing l t x) (called q).lent.numbers
      asked (Some n) e = let z : ◌≡◌ {A = ℕ} 0 1 = cc in absurd (omega arith)
      asked None e = answered (webs (listing l t x)) refl e

  pub choose_call_demand {ℓ} : (s : ℕ) → (choose_call l t x o).answer ≡ accepted (by_webs s)
      → Demand3Of {ℓ} (listing l t x) (choose_call l t x o).lent.numbers
  unfolding choose_call chosen_written choose
  choose_call_demand s e = asked (web_refusal l t x o) e
    where
      chosen : Answer Numbered → Choice
      chosen a = elim a [ refused n ↦ chose_splits (splits (listing l t x)) | accepted r ↦ chose_webs r ]

      called : Option ℕ → Called Chosen
      called q = elim q [ Some n ↦ record { answer = refused n; lent = o } | None ↦ chosen_written (chosen (webs (listing l t x))) o ]

      answered : (a : Answer Numbered) → webs (listing l t x) ≡ a → (chosen_written (chosen a) o).answer ≡ accepted (by_webs s)
          → Demand3Of {ℓ} (listing l t x) (chosen_written (chosen a) o).lent.numbers
      answered (refused n) q e = let z : ◌≡◌ {A = ℕ} 0 1 = cc in absurd (omega arith)
      answered (accepted r) q e = filled_demand (listing l t x) r o.numbers q

      asked : (q : Option ℕ) → (called q).answer ≡ accepted (by_webs s) → Demand3Of {ℓ} (listing l t x) (called q).lent.numbers
      asked (Some n) e = let z : ◌≡◌ {A = ℕ} 0 1 = cc in absurd (omega arith)
      asked None e = answered (webs (listing l t x)) refl e
