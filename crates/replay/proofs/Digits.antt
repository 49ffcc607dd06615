-- What the definitions give, one step at a time.
--   blanks_*    at a blank, at another byte, at the end
--   digits_*    at a digit, at one with which the value is beyond 64 bits, at another byte, at the end
-- Assumes nothing.
use Rattle.std.specs.Prelude.{Some, None}
use mathlib.Core.Path.{◌≡◌, refl}
use mathlib.Core.Bool.{true, false}
use mathlib.Core.List.{List, [], ◌∷◌}
use Prim.Native.Nat.{ℕ, ◌+◌, ◌*◌, ◌-◌, ◌≤◌, ◌<◌}
use native.Mathlib.Omega.{arith}
use borrow.Author.Tests.{le-leb, lt-leb}
use lib.ListN.{length}
use Rattle.replay.specs.Decimal.{is_blank, blanks, is_digit, digits}

pub blanks_next : (b : ℕ) (s : List ℕ) → is_blank b ≡ true → blanks (b ∷ s) ≡ blanks s
unfolding blanks
blanks_next b s e = rw e

pub blanks_stop : (b : ℕ) (s : List ℕ) → is_blank b ≡ false → blanks (b ∷ s) ≡ b ∷ s
unfolding blanks
blanks_stop b s e = rw e

pub blanks_end : (s : List ℕ) → length s ≡ 0 → blanks s ≡ s
unfolding blanks
blanks_end [] h = refl
blanks_end (b ∷ s) h = absurd (omega arith)

pub digits_end : (v : ℕ) (s : List ℕ) → length s ≡ 0 → digits v s ≡ Some (v, s)
unfolding digits
digits_end v [] h = refl
digits_end v (b ∷ s) h = absurd (omega arith)

module _ (v b : ℕ) (s : List ℕ) where
  pub digits_stop : is_digit b ≡ false → digits v (b ∷ s) ≡ Some (v, b ∷ s)
  unfolding digits
  digits_stop e = rw e

  pub digits_next : is_digit b ≡ true → v * 10 + (b - 48) ≤ 18446744073709551615 → digits v (b ∷ s) ≡ digits (v * 10 + (b - 48)) s
  unfolding digits
  digits_next e h = rw (e, le-leb (v * 10 + (b - 48)) 18446744073709551615 h)

  pub digits_beyond : is_digit b ≡ true → 18446744073709551615 < v * 10 + (b - 48) → digits v (b ∷ s) ≡ None
  unfolding digits
  digits_beyond e h = rw (e, lt-leb (v * 10 + (b - 48)) 18446744073709551615 h)

pub ruleset number_rules = (blanks_next, blanks_stop, blanks_end, digits_end, digits_stop, digits_next, digits_beyond)
