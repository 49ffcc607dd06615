-- Demand 3 of the output slice, by the web call's own equation.
--   every_type     for every type of values
--   of_numbers     for values in ℕ, as the call's contract has it
-- Assumes nothing.
use Prim.Native.Nat.{ℕ}
use mathlib.Core.Path.{◌≡◌, sym, ap, subst, ◌∙◌}
use mathlib.Core.List.{List}
use Rattle.definitions.specs.Columns.{listing}
use Rattle.definitions.specs.Answers.{accepted}
use Rattle.definitions.specs.Calls.{Lent, Called, web_call}
use Rattle.theory.proofs.Called.{Demand3Of, web_call_demand}
use Rattle.std.specs.Prelude.{Result}
use Rattle.questions.specs.Refusals.{answer_of}
use Rattle.questions.specs.declared.Refusal.{Refusal}
use Rattle.pseudo_ssa.specs.Answers.{called, Demand3Over}

module _ (l t x : List ℕ) (o : Lent) (a : Result ℕ Refusal) (ns ms ws : List ℕ) (equation : called a ns ms ws ≡ web_call l t x o)
    (s : ℕ) (yes : answer_of a ≡ accepted s) where
  pub every_type {ℓ} : Demand3Of {ℓ} (listing l t x) ns
  every_type =
      subst (Demand3Of (listing l t x)) (ap (λ (c : Called ℕ). c.lent.numbers) (sym equation))
      (web_call_demand l t x o s (ap (λ (c : Called ℕ). c.answer) (sym equation) ∙ yes))

  pub of_numbers : Demand3Over ℕ (listing l t x) ns
  of_numbers G flow = let d = every_type G flow in (d.0 ℕ, d.1)
