-- What follows from a call's equation for what crosses to C and Rust: the number of the refusal, the other values, the lent words.
--   called_*     a call that numbers tokens
--   passed_*     a loop pass, the JSON reader
--   written_*    the JSON writer
-- Assumes nothing.
use Prim.Native.Nat.{ℕ}
use mathlib.Core.Path.{◌≡◌, ap, ◌∙◌}
use mathlib.Core.List.{List}
use Rattle.definitions.specs.Questions.{Limits}
use Rattle.definitions.specs.Answers.{Answer}
use Rattle.definitions.specs.Calls.{Columns, Passed, Called, Lent, Chosen}
use Rattle.json_definitions.specs.JsonCalls.{Written}
use Rattle.javrenzu_calls.specs.Crossing.{refusal_number, number_of, choice_of, chosen_sweeps, counts_of}

module _ {A : Type 0} (C : Called A) (a : Answer A) (o : Lent) (equation : record { answer = a; lent = o } ≡ C) where
  pub called_number : (n : ℕ) → n ≡ refusal_number a → n ≡ refusal_number C.answer
  called_number n e = e ∙ ap (λ (c : Called A). refusal_number c.answer) equation

  pub called_lent : o ≡ C.lent
  called_lent = ap (λ (c : Called A). c.lent) equation

pub called_value : (C : Called ℕ) (a : Answer ℕ) (o : Lent) → record { answer = a; lent = o } ≡ C → (n : ℕ) → n ≡ number_of a → n ≡ number_of C.answer
called_value C a o equation n e = e ∙ ap (λ (c : Called ℕ). number_of c.answer) equation

module _ (C : Called Chosen) (a : Answer Chosen) (o : Lent) (equation : record { answer = a; lent = o } ≡ C) (n : ℕ) where
  pub called_choice : n ≡ choice_of a → n ≡ choice_of C.answer
  called_choice e = e ∙ ap (λ (c : Called Chosen). choice_of c.answer) equation

  pub called_sweeps : n ≡ chosen_sweeps a → n ≡ chosen_sweeps C.answer
  called_sweeps e = e ∙ ap (λ (c : Called Chosen). chosen_sweeps c.answer) equation

module _ (C : Passed) (a : Answer Limits) (o : Columns) (equation : record { answer = a; out = o } ≡ C) where
  pub passed_number : (n : ℕ) → n ≡ refusal_number a → n ≡ refusal_number C.answer
  passed_number n e = e ∙ ap (λ (c : Passed). refusal_number c.answer) equation

  pub passed_counts : (n : Limits) → n ≡ counts_of a → n ≡ counts_of C.answer
  passed_counts n e = e ∙ ap (λ (c : Passed). counts_of c.answer) equation

  pub passed_out : o ≡ C.out
  passed_out = ap (λ (c : Passed). c.out) equation

module _ (C : Written) (a : Answer ℕ) (o : List ℕ) (equation : record { answer = a; out = o } ≡ C) where
  pub written_number : (n : ℕ) → n ≡ refusal_number a → n ≡ refusal_number C.answer
  written_number n e = e ∙ ap (λ (c : Written). refusal_number c.answer) equation

  pub written_value : (n : ℕ) → n ≡ number_of a → n ≡ number_of C.answer
  written_value n e = e ∙ ap (λ (c : Written). number_of c.answer) equation

  pub written_out : o ≡ C.out
  written_out = ap (λ (c : Written). c.out) equation

pub ruleset crossings = (
  called_number,
  called_lent,
  called_value,
  called_choice,
  called_sweeps,
  passed_number,
  passed_counts,
  passed_out,
  written_number,
  written_value,
  written_out,
)
