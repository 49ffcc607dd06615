-- The chooser's answer and lent words, as the definitions have them.
--   chosen c, chosen_of a    the choice; the answer with it
--   called a ns ms ws       the answer and the lent words at exit
--   choose_call_of m        `choose_call` with the limits m
-- Assumes nothing.
use Rattle.std.specs.Prelude.{ℕ, List, None, Some, Result, Ok, Err}
use Rattle.definitions.specs.Columns.{listing}
use Rattle.definitions.specs.Questions.{Limits}
use Rattle.definitions.specs.Answers.{refused, choose}
use Rattle.definitions.specs.Calls.{Lent, Called, Chosen, by_webs, by_splits, chosen_written}
use Rattle.questions.specs.Refusals.{answer_of}
use Rattle.questions.specs.declared.Refusal.{Refusal}
use Rattle.pseudo_ssa.specs.Within.{web_refusal_within}
use Rattle.pseudo_ssa.specs.Answers.{lent}
use Rattle.choose.specs.declared.Choice.{Choice}
use Rattle.choose.specs.declared.Choice.TheVariants.{ByWebs, BySplits}

abbrev pub chosen : Choice → Chosen
chosen (ByWebs sweeps) = by_webs sweeps
chosen BySplits = by_splits

abbrev pub chosen_of : Result Choice Refusal → Result Chosen Refusal
chosen_of (Ok c) = Ok (chosen c)
chosen_of (Err r) = Err r

abbrev pub called : Result Choice Refusal → List ℕ → List ℕ → List ℕ → Called Chosen
called a ns ms ws = record { answer = answer_of (chosen_of a); lent = lent ns ms ws }

unfoldable pub choose_call_of : Limits → List ℕ → List ℕ → List ℕ → Lent → Called Chosen
choose_call_of m l t x o = elim (web_refusal_within m l t x o) [
  | Some n ↦ record { answer = refused n; lent = o }
  | None ↦ chosen_written (choose (listing l t x)) o
]
