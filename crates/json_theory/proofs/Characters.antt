-- A string goes character by character: laws of `up_to_quote`, without the bound.
--   up_to_quote_none, up_to_quote_quote    at the end of the text; at a quote
--   up_to_quote_bad, up_to_quote_go        at what is no character; at a character
-- Assumes nothing.
use Rattle.std.specs.Prelude.{Option, None, Some}
use Prim.Native.Nat.{ℕ, zero, suc, ◌≤◌}
use mathlib.Core.Path.{◌≡◌, refl}
use mathlib.Core.List.{List, [], ◌∷◌, ◌++◌}
use native.Mathlib.Omega.{arith}
use lib.ListN.{length}
use borrow.Author.Tests.{ne_eqb}
use Rattle.json_definitions.specs.Parser.{Got, got, Parser, pure, after, or_try, ◌>>=◌, literal}
use Rattle.json_definitions.specs.Strings.{character, characters}
use Rattle.json_theory.specs.Steps.{up_to_quote, prepend}
use Rattle.json_theory.proofs.Progress.{character_rest}

module _ (f f' : Parser (List ℕ)) where
  same_step : (s : List ℕ) → ((g : Got (List ℕ)) → character s ≡ Some g → f g.rest ≡ f' g.rest)
      → or_try (after (literal (34 ∷ []) s) (λ _. pure [])) (character >>= (λ u. f >>= (λ us. pure (u ++ us)))) s
      ≡ or_try (after (literal (34 ∷ []) s) (λ _. pure [])) (character >>= (λ u. f' >>= (λ us. pure (u ++ us)))) s
  unfolding or_try
  same_step s h = go (after (literal (34 ∷ []) s) (λ _. pure []))
    where
      one : (p : Option (Got (List ℕ))) → ((g : Got (List ℕ)) → p ≡ Some g → f g.rest ≡ f' g.rest)
          → after p (λ u. f >>= (λ us. pure (u ++ us))) ≡ after p (λ u. f' >>= (λ us. pure (u ++ us)))
      one None h = unfold after in refl
      one (Some g) h = unfold after in rw (h g refl)

      go : (o : Option (Got (List ℕ)))
          → or_try o (character >>= (λ u. f >>= (λ us. pure (u ++ us)))) s ≡ or_try o (character >>= (λ u. f' >>= (λ us. pure (u ++ us)))) s
      go (Some g) = refl
      go None = one (character s) h

characters_fuel : (n m : ℕ) (s : List ℕ) → length s ≤ n → length s ≤ m → characters n s ≡ characters m s
unfolding characters
characters_fuel zero zero s h k = refl
characters_fuel zero (suc m) [] h k = unfold or_try after literal character in refl
characters_fuel zero (suc m) (c ∷ s) h k = absurd (omega arith)
characters_fuel (suc n) zero [] h k = unfold or_try after literal character in refl
characters_fuel (suc n) zero (c ∷ s) h k = absurd (omega arith)
characters_fuel (suc n) (suc m) s h k = same_step (characters n) (characters m) s (λ g e. let l = character_rest s g e in characters_fuel n m g.rest (omega arith) (omega arith))

pub up_to_quote_none : up_to_quote [] ≡ None
unfolding up_to_quote characters
up_to_quote_none = refl

pub up_to_quote_quote : (s : List ℕ) → up_to_quote (34 ∷ s) ≡ got [] s
unfolding up_to_quote characters or_try after literal
up_to_quote_quote s = refl

module _ (c : ℕ) (s : List ℕ) (h : c ≡ 34 → ⊥) where
  pub up_to_quote_bad : character (c ∷ s) ≡ None → up_to_quote (c ∷ s) ≡ None
  unfolding up_to_quote characters or_try after literal
  up_to_quote_bad e = rw (ne_eqb c 34 h, e)

  pub up_to_quote_go : (g : Got (List ℕ)) → character (c ∷ s) ≡ Some g → up_to_quote (c ∷ s) ≡ prepend g.value (up_to_quote g.rest)
  unfolding up_to_quote characters or_try after literal prepend
  up_to_quote_go g e =
      let l = character_rest (c ∷ s) g e in
      rw (ne_eqb c 34 h, e, characters_fuel (length s) (length g.rest) g.rest (omega arith) (omega arith))
