-- Rules for the needs of kinds and numbers.
--   decimal_same    std's decimal digits are those of the definitions; decimal_written, what is written of them; decimal_short, how many they are at most
--   no_kind         what is no kind has no text
-- Assumes nothing.
use Prim.Native.Nat.{ℕ, zero, suc, ◌+◌, ◌/◌, ◌%◌, ◌^◌, ◌≤◌, ◌<◌}
use mathlib.Core.Path.{◌≡◌, refl, ◌∙◌}
use mathlib.Core.Bool.{Bool, true, false}
use mathlib.Core.List.{List, [], ◌∷◌, ◌++◌}
use native.Mathlib.Omega.{arith}
use borrow.Author.Tests.{lt-ltb, le-ltb, ltb-false}
use lib.Dec.{ltb}
use lib.ListN.{length}
use Rattle.std.specs.Fmt.{decimal as printed}
use Rattle.std.proofs.lemmas.Fmt.{decimal_by_steps, length-decimal-le}
use Rattle.json_definitions.specs.Writer.{digits_of, decimal, kind_text}
use Rattle.json_append.specs.Appended.{Wrote}
use Rattle.json_append.specs.declared.writer.Writer.{Writer}
use Rattle.json_append.proofs.Appends.{wrote_as}

-- more digits may be allowed than there are
digits_fuel : (f n : ℕ) → n ≤ f → digits_of f n ≡ digits_of n n
digits_fuel f n h = both f n n h (omega arith)
  where
    both : (f g n : ℕ) → n ≤ f → n ≤ g → digits_of f n ≡ digits_of g n
    both zero zero n h k = refl
    both zero (suc g) n h k = unfold digits_of in rw (lt-ltb n 10 (omega arith))
    both (suc f) zero n h k = unfold digits_of in rw (lt-ltb n 10 (omega arith))
    both (suc f) (suc g) n h k = go (ltb n 10) refl (both f g (n / 10))
      where
        go : (b : Bool) → ltb n 10 ≡ b → (n / 10 ≤ f → n / 10 ≤ g → digits_of f (n / 10) ≡ digits_of g (n / 10)) → digits_of (suc f) n ≡ digits_of (suc g) n
        go true e ih = unfold digits_of in rw e
        go false e ih = let l = ltb-false n 10 e in unfold digits_of in rw (e, ih (omega arith) (omega arith))

pub one_digit : (n : ℕ) → n < 10 → (48 + n) ∷ [] ≡ decimal n
unfolding decimal digits_of
one_digit zero h = refl
one_digit (suc n) h = rw (lt-ltb (suc n) 10 h)

pub more_digits : (n : ℕ) → 10 ≤ n → decimal (n / 10) ++ ((48 + n % 10) ∷ []) ≡ decimal n
unfolding decimal
more_digits zero h = absurd (omega arith)
more_digits (suc n) h = unfold digits_of in rw (le-ltb (suc n) 10 h, digits_fuel n (suc n / 10) (omega arith))

pub decimal_same : (n : ℕ) → n < 2 ^ 64 → printed n ≡ decimal n
decimal_same n h = decimal_by_steps (λ n ds. ds ≡ decimal n) one_digit (λ n ds k e. rw e (more_digits n k)) n h

pub decimal_short : (k n : ℕ) → 0 < k → n < 10 ^ k → n < 2 ^ 64 → length (decimal n) ≤ k
decimal_short k n p h m = rw (← decimal_same n m) (length-decimal-le k n p h m)

pub decimal_written : (w : Writer) (n : ℕ) (s : List ℕ) (w' : Writer) → n < 2 ^ 64 → s ≡ printed n → Wrote w s w' → Wrote w (decimal n) w'
decimal_written w n s w' h q f = wrote_as w s (decimal n) w' (q ∙ decimal_same n h) f

-- Kinds

pub no_kind : (k : ℕ) → (k ≡ 0 → ⊥) → (k ≡ 1 → ⊥) → (k ≡ 2 → ⊥) → (k ≡ 3 → ⊥) → (k ≡ 4 → ⊥) → (k ≡ 5 → ⊥) → (k ≡ 6 → ⊥) → (k ≡ 7 → ⊥) → [] ≡ kind_text k
unfolding kind_text
no_kind zero n₀ n₁ n₂ n₃ n₄ n₅ n₆ n₇ = absurd (n₀ refl)
no_kind (suc zero) n₀ n₁ n₂ n₃ n₄ n₅ n₆ n₇ = absurd (n₁ refl)
no_kind (suc (suc zero)) n₀ n₁ n₂ n₃ n₄ n₅ n₆ n₇ = absurd (n₂ refl)
no_kind (suc (suc (suc zero))) n₀ n₁ n₂ n₃ n₄ n₅ n₆ n₇ = absurd (n₃ refl)
no_kind (suc (suc (suc (suc zero)))) n₀ n₁ n₂ n₃ n₄ n₅ n₆ n₇ = absurd (n₄ refl)
no_kind (suc (suc (suc (suc (suc zero))))) n₀ n₁ n₂ n₃ n₄ n₅ n₆ n₇ = absurd (n₅ refl)
no_kind (suc (suc (suc (suc (suc (suc zero)))))) n₀ n₁ n₂ n₃ n₄ n₅ n₆ n₇ = absurd (n₆ refl)
no_kind (suc (suc (suc (suc (suc (suc (suc zero))))))) n₀ n₁ n₂ n₃ n₄ n₅ n₆ n₇ = absurd (n₇ refl)
no_kind (suc (suc (suc (suc (suc (suc (suc (suc k)))))))) n₀ n₁ n₂ n₃ n₄ n₅ n₆ n₇ = refl

pub ruleset values = (no_kind, wrote_as)
