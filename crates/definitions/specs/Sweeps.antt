-- Reaching definitions by sweeps, to be read beside the inner loop of `recover` of pseudo_ssa.rs.
-- For one family: a definition is its line, 0 standing for the entry value; a set of definitions is a rising list.
--   incoming preds defs out i    the definitions that come to line i
--   outgoing preds defs out i    those that leave it
--   sweep preds defs out         the outgoing sets after all lines in order
--   sweeps preds defs            the outgoing sets at the end, and the number of sweeps
-- preds has the predecessors of each line, defs the defining lines in order, out the outgoing set of each line.
-- Assumes nothing.
use Rattle.std.specs.Prelude.{if◌then◌else◌, ℕ, zero, suc, Bool, true, false, ◌&&◌, List, [], ◌∷◌, length, get_or, set, replicate}
use Rattle.definitions.specs.Lists.{any, filter, fold, up_to, member, ◌≟◌}

-- Each from its predecessors' newest outgoing sets; line 0 takes only the entry.
unfoldable pub incoming : List (List ℕ) → List ℕ → List (List ℕ) → ℕ → List ℕ
incoming preds defs out zero = 0 ∷ []
incoming preds defs out (suc i) = filter (λ d. any (λ p. member d (get_or out p [])) (get_or preds (suc i) [])) (0 ∷ defs)

unfoldable pub outgoing : List (List ℕ) → List ℕ → List (List ℕ) → ℕ → List ℕ
outgoing preds defs out i = if member i defs then i ∷ [] else incoming preds defs out i

unfoldable pub sweep : List (List ℕ) → List ℕ → List (List ℕ) → List (List ℕ)
sweep preds defs out = fold (λ o i. set o i (outgoing preds defs o i)) out (up_to (length preds))

unfoldable pub same_sets : List (List ℕ) → List (List ℕ) → Bool
same_sets [] [] = true
same_sets [] (t ∷ ts) = false
same_sets (s ∷ ss) [] = false
same_sets (s ∷ ss) (t ∷ ts) = (s ≟ t) && same_sets ss ts

pub record Swept : Type 0 where
  pub out : List (List ℕ)
  pub count : ℕ

abbrev pub one_more : Swept → Swept
one_more r = record { out = r.out; count = suc r.count }

-- Repeated until one sweep changes no outgoing set.
unfoldable pub sweeps_from : List (List ℕ) → List ℕ → ℕ → List (List ℕ) → Swept
sweeps_from preds defs zero out = record { out = out; count = 0 }
sweeps_from preds defs (suc k) out =
    let next = sweep preds defs out in
    elim (same_sets next out) [
      | true ↦ record { out = next; count = 1 }
      | false ↦ one_more (sweeps_from preds defs k next)
    ]

-- All sets are empty at first. One sweep more than there are lines is enough.
unfoldable pub sweeps : List (List ℕ) → List ℕ → Swept
sweeps preds defs = sweeps_from preds defs (suc (length preds)) (replicate (length preds) [])
