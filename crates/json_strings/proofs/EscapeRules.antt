-- What the definitions of the escapes give, one step at a time.
--   hex_digit_*                hexadecimal digits, by the value that `char::to_digit` gives
--   low_surrogate_*, code_unit_*, escape_*
-- Assumes nothing.
use Rattle.std.specs.Prelude.{Option, None, Some}
use mathlib.Core.Path.{◌≡◌, refl}
use mathlib.Core.Bool.{Bool, true, false, cond, and-false}
use mathlib.Core.List.{List, [], ◌∷◌}
use Prim.Native.Nat.{ℕ, ◌+◌, ◌*◌, ◌-◌, ◌≤◌, ◌<◌}
use native.Mathlib.Omega.{arith}
use borrow.Author.Tests.{eq-eqb, ne_eqb, le-leb, lt-leb, lt-ltb, le-ltb}
use lib.Dec.{leb, ltb}
use lib.ListN.{length}
use Rattle.std.proofs.lemmas.Bool.Decides.{nat_tests}
use Rattle.std.specs.Char.{digit_value}
use Rattle.json_scan.proofs.Rules.{steps}
use Rattle.json_definitions.specs.Parser.{Got, Parser, got, after, ◌>>=◌, literal}
use Rattle.json_theory.proofs.Results.{never}
use Rattle.json_definitions.specs.Strings.{encode, hex_value, hex_digit, hex_4, low_surrogate, code_unit, short_escape, escape}

-- Hexadecimal digits

hex_value_of : (c : ℕ) → digit_value c < 16 → hex_value c ≡ digit_value c
unfolding hex_value
hex_value_of c h = grind (arith, nat_tests)

hex_value_none : (c : ℕ) → (digit_value c < 16 → ⊥) → 16 ≤ hex_value c
unfolding hex_value
hex_value_none c h = grind (arith, nat_tests)

pub hex_digit_short : (s : List ℕ) → length s ≡ 0 → hex_digit s ≡ None
unfolding hex_digit
hex_digit_short [] h = refl
hex_digit_short (c ∷ s) h = absurd (omega arith)

module _ (c : ℕ) (s : List ℕ) where
  pub hex_digit_yes : digit_value c < 16 → hex_digit (c ∷ s) ≡ got (digit_value c) s
  unfolding hex_digit
  hex_digit_yes h = rw (hex_value_of c h, lt-ltb (digit_value c) 16 h)

  pub hex_digit_no : (digit_value c < 16 → ⊥) → hex_digit (c ∷ s) ≡ None
  unfolding hex_digit
  hex_digit_no h = rw (le-ltb (hex_value c) 16 (hex_value_none c h))

hex_digit_less : (s : List ℕ) (g : Got ℕ) → hex_digit s ≡ Some g → length g.rest < length s
unfolding hex_digit
hex_digit_less [] g e = never g e
hex_digit_less (c ∷ s) g e = go (ltb (hex_value c) 16) e
  where
    go : (b : Bool) → cond b (got (hex_value c) s) None ≡ Some g → length g.rest < length (c ∷ s)
    go true q = let z : record { value = hex_value c; rest = s } ≡ g = cc in rw (← z) (omega arith)
    go false q = never g q

after_none : (o : Option (Got ℕ)) (f : ℕ → Parser ℕ) → ((g : Got ℕ) → o ≡ Some g → f g.value g.rest ≡ None) → after o f ≡ None
unfolding after
after_none None f h = refl
after_none (Some g) f h = h g refl

pub hex_4_short : (s : List ℕ) → length s < 4 → hex_4 s ≡ None
unfolding hex_4
hex_4_short s h =
    after_none (hex_digit s) _ (λ a p. after_none (hex_digit a.rest) _ (λ b q. after_none (hex_digit b.rest) _ (λ c r.
    let i = hex_digit_less s a p in
    let j = hex_digit_less a.rest b q in
    let k = hex_digit_less b.rest c r in
    rw (hex_digit_short c.rest (omega arith)) (unfold after in refl))))

-- Escapes

module _ (u w : ℕ) (s : List ℕ) where
  pub low_surrogate_low : w < 56320 → low_surrogate u w s ≡ None
  unfolding low_surrogate
  low_surrogate_low h = rw (lt-leb 56320 w h)

  pub low_surrogate_high : 57343 < w → low_surrogate u w s ≡ None
  unfolding low_surrogate
  low_surrogate_high h = rw (lt-leb w 57343 h, and-false (leb 56320 w))

  pub low_surrogate_go : 56320 ≤ w → w ≤ 57343 → low_surrogate u w s ≡ got (encode (65536 + (u - 55296) * 1024 + (w - 56320))) s
  unfolding low_surrogate
  low_surrogate_go h k = rw (le-leb 56320 w h, le-leb w 57343 k)

module _ (u : ℕ) (s : List ℕ) where
  pub code_unit_low : u < 55296 → code_unit u s ≡ got (encode u) s
  unfolding code_unit
  code_unit_low h = rw (lt-leb 55296 u h)

  pub code_unit_high : 57343 < u → code_unit u s ≡ got (encode u) s
  unfolding code_unit
  code_unit_high h = rw (lt-leb u 57343 h, and-false (leb 55296 u))

  pub code_unit_lone : 56319 < u → u ≤ 57343 → code_unit u s ≡ None
  unfolding code_unit
  code_unit_lone h k = rw (le-leb 55296 u (omega arith), le-leb u 57343 k, lt-leb u 56319 h)

  pub code_unit_pair : 55296 ≤ u → u ≤ 56319 → code_unit u s ≡ after (literal (92 ∷ 117 ∷ []) s) (λ _. hex_4 >>= low_surrogate u)
  unfolding code_unit
  code_unit_pair h k = rw (le-leb 55296 u h, le-leb u 57343 (omega arith), le-leb u 56319 k)

pub escape_short : (s : List ℕ) → length s ≡ 0 → escape s ≡ None
unfolding escape
escape_short [] h = refl
escape_short (c ∷ s) h = absurd (omega arith)

module _ (c : ℕ) (s : List ℕ) where
  pub escape_long : c ≡ 117 → escape (c ∷ s) ≡ after (hex_4 s) code_unit
  unfolding escape
  escape_long e = rw (eq-eqb c 117 e)

  module _ (n : c ≡ 117 → ⊥) where
    pub escape_no : short_escape c ≡ 0 → escape (c ∷ s) ≡ None
    unfolding escape
    escape_no e = rw (ne_eqb c 117 n, e)

    pub escape_yes : (short_escape c ≡ 0 → ⊥) → escape (c ∷ s) ≡ got (short_escape c ∷ []) s
    unfolding escape
    escape_yes e = rw (ne_eqb c 117 n, ne_eqb (short_escape c) 0 e)

pub ruleset escapes = (
  steps,
  hex_digit_short,
  hex_digit_yes,
  hex_digit_no,
  hex_4_short,
  low_surrogate_low,
  low_surrogate_high,
  low_surrogate_go,
  code_unit_low,
  code_unit_high,
  code_unit_lone,
  code_unit_pair,
  escape_short,
  escape_long,
  escape_no,
  escape_yes,
)
