-- What a call accepted was asked, and rows that have room.
--   Asked l t x                             questions 1 and 2 are answered yes
--   web_asked, split_asked, choose_asked    so they are where the call accepts
--   printed                                 what has room is printed
-- Assumes nothing.
use Rattle.std.specs.Prelude.{Option, None, Some}
use Prim.Native.Nat.{ℕ, ◌≤◌}
use mathlib.Core.Path.{◌≡◌, refl}
use mathlib.Core.Bool.{Bool, true, false}
use mathlib.Core.List.{List, ◌∷◌}
use native.Mathlib.Omega.{arith}
use lib.ListN.{length}
use Rattle.definitions.specs.Columns.{listing}
use Rattle.definitions.specs.Questions.{limits, question_1, question_2, refusal}
use Rattle.definitions.specs.Answers.{refused, accepted, webs, splits, choose}
use Rattle.definitions.specs.Calls.{Lent, Called, Chosen, written, web_refusal, split_refusal, webs_written, chosen_written, web_call, split_call, choose_call}
use Rattle.json_append.specs.Appended.{Appended}
use Rattle.rows.specs.Rows.{Printed}

abbrev pub Asked : List ℕ → List ℕ → List ℕ → Type 0
Asked l t x = (question_1 limits l t x ≡ true) × (question_2 l t x ≡ true)

first_two : (a b : Bool) (qs : List (ℕ × Bool)) → refusal ((1, a) ∷ (2, b) ∷ qs) ≡ None → (a ≡ true) × (b ≡ true)
unfolding refusal
first_two true true qs e = (refl, refl)
first_two true false qs e = let z : ◌≡◌ {A = ℕ} 0 1 = cc in absurd (omega arith)
first_two false b qs e = let z : ◌≡◌ {A = ℕ} 0 1 = cc in absurd (omega arith)

module _ (l t x : List ℕ) (o : Lent) where
  -- a call that its questions refuse, or that goes on
  called : {A : Type 0} → Called A → Option ℕ → Called A
  called on q = elim q [ Some n ↦ record { answer = refused n; lent = o } | None ↦ on ]

  asked : {A : Type 0} (a : A) (on : Called A) (q : Option ℕ) → (q ≡ None → Asked l t x)
      → (called on q).answer ≡ accepted a → Asked l t x
  unfolding called
  asked a on None h e = h refl
  asked a on (Some n) h e = let z : ◌≡◌ {A = ℕ} 0 1 = cc in absurd (omega arith)

  pub web_asked : (s : ℕ) → (web_call l t x o).answer ≡ accepted s → Asked l t x
  unfolding web_call called
  web_asked s e = asked s (webs_written (webs (listing l t x)) o) (web_refusal l t x o) (first_two _ _ _) e

  pub split_asked : (s : Unit {0}) → (split_call l t x o).answer ≡ accepted s → Asked l t x
  unfolding split_call called
  split_asked s e = asked s (record { answer = accepted tt; lent = written (splits (listing l t x)) o }) (split_refusal l t x o) (first_two _ _ _) e

  pub choose_asked : (s : Chosen) → (choose_call l t x o).answer ≡ accepted s → Asked l t x
  unfolding choose_call called
  choose_asked s e = asked s (chosen_written (choose (listing l t x)) o) (web_refusal l t x o) (first_two _ _ _) e

pub printed : (w out out' : List ℕ) (e : ℕ) → Appended out 0 w out' e → length w ≤ length out → Printed w out' e
printed w out out' e f h = let k = f.end in let n = f.long in record { bytes = f.bytes (omega arith); within = omega arith }
