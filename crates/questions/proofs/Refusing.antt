-- The refusal of a list of questions.
--   refusal_yes        no question is answered no: the first is answered yes, and the rest too
--   refusal_earlier    what the first questions refuse, more questions refuse
--   refusal_later      where the first questions are answered yes, the others decide
-- Assumes nothing.
use Rattle.std.specs.Prelude.{Option, None, Some}
use mathlib.Core.Path.{◌≡◌, refl}
use mathlib.Core.Bool.{Bool, true, false}
use mathlib.Core.List.{List, [], ◌∷◌, ◌++◌}
use Prim.Native.Nat.{ℕ}
use native.Mathlib.Omega.{arith}
use Rattle.definitions.specs.Questions.{refusal}

some_none : {A : Type 0} {k : ℕ} → Some k ≡ None → A
some_none e = let z : ◌≡◌ {A = ℕ} 0 1 = cc in absurd (omega arith)

pub refusal_yes : (n : ℕ) (b : Bool) (qs : List (ℕ × Bool)) → refusal ((n, b) ∷ qs) ≡ None → (b ≡ true) × (refusal qs ≡ None)
unfolding refusal
refusal_yes n true qs e = (refl, e)
refusal_yes n false qs e = some_none e

pub refusal_earlier : (k : ℕ) (qs rs : List (ℕ × Bool)) → Some k ≡ refusal qs → Some k ≡ refusal (qs ++ rs)
unfolding refusal
refusal_earlier k [] rs e = some_none e
refusal_earlier k ((n, true) ∷ qs) rs e = refusal_earlier k qs rs e
refusal_earlier k ((n, false) ∷ qs) rs e = e

pub refusal_later : (qs rs : List (ℕ × Bool)) → None ≡ refusal qs → refusal (qs ++ rs) ≡ refusal rs
unfolding refusal
refusal_later [] rs e = refl
refusal_later ((n, true) ∷ qs) rs e = refusal_later qs rs e
refusal_later ((n, false) ∷ qs) rs e = let z : ◌≡◌ {A = ℕ} 0 1 = cc in absurd (omega arith)
