-- Decimal numbers in text, separated by blanks and line feeds.
--   is_blank b      the byte b is a blank or a line feed
--   blanks s        what is left of s behind the blanks and line feeds at its start
--   is_digit b      the byte b is a digit
--   digits v s      the value of the digits that s starts with, behind digits whose value is v, and what is left behind them; none where it is
--                   beyond 64 bits
--   shorter s r     the number r, where less is left behind it than s
--   number s        the number that s starts with, behind any blanks, and what is left behind it
--   number_of r     the answer r of the code
-- Assumes nothing.
use Rattle.std.specs.Prelude.{if◌then◌else◌, ℕ, ◌+◌, ◌*◌, ◌-◌, Bool, ◌&&◌, ◌||◌, List, [], ◌∷◌, eqb, ltb, leb, length, Option, None, Some}
use Rattle.std.specs.Borrow.{Bor}

abbrev pub is_blank : ℕ → Bool
is_blank b = eqb b 32 || eqb b 10

unfoldable pub blanks : List ℕ → List ℕ
blanks [] = []
blanks (b ∷ s) = if is_blank b then blanks s else b ∷ s

abbrev pub is_digit : ℕ → Bool
is_digit b = leb 48 b && leb b 57

unfoldable pub digits : ℕ → List ℕ → Option (ℕ × List ℕ)
digits v [] = Some (v, [])
digits v (b ∷ s) =
    if is_digit b
    then (if leb (v * 10 + (b - 48)) 18446744073709551615 then digits (v * 10 + (b - 48)) s else None)
    else Some (v, b ∷ s)

abbrev pub shorter : List ℕ → Option (ℕ × List ℕ) → Option (ℕ × List ℕ)
shorter s (Some (v, rest)) = if ltb (length rest) (length s) then Some (v, rest) else None
shorter s None = None

abbrev pub number : List ℕ → Option (ℕ × List ℕ)
number s = shorter (blanks s) (digits 0 (blanks s))

abbrev pub number_of : Option (ℕ × Bor (List ℕ)) → Option (ℕ × List ℕ)
number_of (Some (v, rest)) = Some (v, rest.now)
number_of None = None
