-- What one family does, and all of them.
--   State l t x r k space ns ms       the first k families are done: ns has the numbers, ms the marks; space holds the graph
--   FamilyDone                        what `family` does
--   Going                             the same, with the sweeps so far
--   AllDone budget N ns ms a          the numbers, the marks and the sweeps N are answered, where the budget allows them
-- Assumes nothing.
use Rattle.std.specs.Prelude.{ℕ, ◌+◌, ◌≤◌, ◌≡◌, List, length}
use Rattle.definitions.specs.Columns.{listing}
use Rattle.definitions.specs.Answers.{no_family, per_token, Numbered}
use Rattle.bits.specs.Edges.{Agree, preds_of}
use Rattle.sweep.specs.Solved.{answer}
use Rattle.std.specs.Prelude.{Option}
use Rattle.families.specs.Tokens.{family_name}
use Rattle.webs.specs.Progress.{webs_over, number_after, mark_after, family_sweeps, sweeps_before}

pub record State (l t x : List ℕ) (r k : ℕ) (space ns ms : List ℕ) : Type 0 where
  pub agree : Agree (length l) r space
  pub numbers : ns ≡ per_token no_family (number_after l t x (webs_over (listing l t x) (preds_of (length l) r space)) k) (listing l t x)
  pub marks : ms ≡ per_token 0 (mark_after (listing l t x) (webs_over (listing l t x) (preds_of (length l) r space)) k) (listing l t x)

pub record FamilyDone (l t x : List ℕ) (r k budget : ℕ) (space₀ space ns ms : List ℕ) (a : Option ℕ) : Type 0 where
  pub answers : a ≡ answer budget (family_sweeps (listing l t x) (preds_of (length l) r space₀) (family_name (listing l t x) k))
  pub preds : family_sweeps (listing l t x) (preds_of (length l) r space₀) (family_name (listing l t x) k) ≤ budget
      → preds_of (length l) r space ≡ preds_of (length l) r space₀
  pub state : family_sweeps (listing l t x) (preds_of (length l) r space₀) (family_name (listing l t x) k) ≤ budget
      → State l t x r (k + 1) space ns ms

-- the first k families took `so_far` sweeps together
pub record Going (l t x : List ℕ) (r k so_far budget : ℕ) (space₀ space ns ms : List ℕ) : Type 0 where
  pub state : State l t x r k space ns ms
  pub preds : preds_of (length l) r space ≡ preds_of (length l) r space₀
  pub total : so_far ≡ sweeps_before (listing l t x) (preds_of (length l) r space₀) k
  pub within : so_far ≤ budget

pub record AllDone (budget : ℕ) (N : Numbered) (ns ms : List ℕ) (a : Option ℕ) : Type 0 where
  pub answers : a ≡ answer budget N.sweeps
  pub numbers : N.sweeps ≤ budget → ns ≡ N.numbers
  pub marks : N.sweeps ≤ budget → ms ≡ N.marks
