-- What the definitions give, one step at a time.
--   skip_white_space_*, literal_*, lexeme_is      white space and fixed words
--   digits_*, whole_number_*, number_is           numbers, by the byte at the start
--   after_got, after_none                         what follows an answer, for parsers made of several
-- Assumes nothing.
use Rattle.std.specs.Prelude.{Option, Some, None}
use mathlib.Core.Path.{◌≡◌, refl, ◌∙◌}
use mathlib.Core.Bool.{Bool, true, false, cond, and-false}
use mathlib.Core.List.{List, [], ◌∷◌}
use Prim.Native.Nat.{ℕ, ◌+◌, ◌*◌, ◌-◌, ◌≤◌, ◌<◌}
use native.Mathlib.Nat.{le_refl}
use native.Mathlib.Omega.{arith}
use borrow.Author.Tests.{eq-eqb, ne_eqb, le-leb, lt-leb}
use lib.Dec.{leb}
use lib.ListN.{length, get_or, drop}
use Rattle.std.specs.Bool.{then_some}
use Rattle.std.specs.Borrow.{Bor}
use Rattle.text.proofs.Parts.{drop_step, drop_end}
use Rattle.json_definitions.specs.Parser.{got, Parser, after, skip_white_space, is_white_space, literal, lexeme}
use Rattle.json_definitions.specs.Reader.{is_digit, digits, at_most, whole_number, number}
use Rattle.json_scan.specs.Answers.{number_of}

-- White space

pub skip_white_space_found : (c : ℕ) (s : List ℕ) → is_white_space c ≡ false → skip_white_space (c ∷ s) ≡ c ∷ s
unfolding skip_white_space
skip_white_space_found c s e = rw e

pub skip_white_space_next : (c : ℕ) (s : List ℕ) → is_white_space c ≡ true → skip_white_space (c ∷ s) ≡ skip_white_space s
unfolding skip_white_space
skip_white_space_next c s e = rw e

pub skip_white_space_end : (s : List ℕ) → length s ≡ 0 → skip_white_space s ≡ s
unfolding skip_white_space
skip_white_space_end [] h = refl
skip_white_space_end (c ∷ s) h = absurd (omega arith)

-- Fixed words

module _ (w : List ℕ) (j : ℕ) where
  pub literal_short : (s : List ℕ) → j < length w → length s ≡ 0 → literal (drop j w) s ≡ None
  unfolding literal
  literal_short [] h k = rw (drop_step 0 w j h)
  literal_short (c ∷ s) h k = absurd (omega arith)

  pub literal_differ : (c : ℕ) (s : List ℕ) → j < length w → (c ≡ get_or w j 0 → ⊥) → literal (drop j w) (c ∷ s) ≡ None
  unfolding literal
  literal_differ c s h e = rw (drop_step 0 w j h, ne_eqb c (get_or w j 0) e)

  pub literal_next : (c : ℕ) (s : List ℕ) → j < length w → c ≡ get_or w j 0 → literal (drop j w) (c ∷ s) ≡ literal (drop (j + 1) w) s
  unfolding literal
  literal_next c s h e = rw (drop_step 0 w j h, eq-eqb c (get_or w j 0) e)

  pub literal_end : (s : List ℕ) → length w ≤ j → literal (drop j w) s ≡ got tt s
  unfolding literal
  literal_end s h = rw (drop_end w j h)

pub lexeme_is : (w s : List ℕ) → lexeme w s ≡ literal w (skip_white_space s)
unfolding lexeme
lexeme_is w s = refl

-- Numbers

no_digit : (c : ℕ) → c < 48 → is_digit c ≡ false
no_digit c h = rw (lt-leb 48 c h)

no_digit_high : (c : ℕ) → 57 < c → is_digit c ≡ false
no_digit_high c h = rw (lt-leb c 57 h) (and-false (leb 48 c))

digit : (c : ℕ) → 48 ≤ c → c ≤ 57 → is_digit c ≡ true
digit c h k = rw (le-leb 48 c h, le-leb c 57 k)

digits_grow : (s : List ℕ) (v : ℕ) → v ≤ (digits v s).value
unfolding digits
digits_grow [] v = le_refl v
digits_grow (c ∷ s) v = go (is_digit c) (digits_grow s (v * 10 + (c - 48)))
  where
    go : (b : Bool) → v * 10 + (c - 48) ≤ (digits (v * 10 + (c - 48)) s).value → v ≤ (cond b (digits (v * 10 + (c - 48)) s) (record { value = v; rest = c ∷ s })).value
    go true h = omega arith
    go false h = le_refl v

too_much : (s : List ℕ) (v most : ℕ) → most < v → at_most most (digits v s) ≡ None
unfolding at_most
too_much s v most h = rw (lt-leb (digits v s).value most (omega (arith, digits_grow s v)))

-- the number v, if it is at most `most`
bounded : (s : Bor (List ℕ)) (most v : ℕ) → at_most most (record { value = v; rest = s.now }) ≡ number_of (then_some (leb v most) (v, s))
unfolding at_most
bounded s most v = go (leb v most)
  where
    go : (b : Bool) → cond b (got v s.now) None ≡ number_of (then_some b (v, s))
    go true = refl
    go false = refl

stop : (s : List ℕ) (v : ℕ) → length s ≡ 0 → digits v s ≡ record { value = v; rest = s }
unfolding digits
stop [] v h = refl
stop (c ∷ s) v h = absurd (omega arith)

pub digits_end : (most v : ℕ) (s : Bor (List ℕ)) → length s.now ≡ 0 → at_most most (digits v s.now) ≡ number_of (then_some (leb v most) (v, s))
digits_end most v s h = rw (stop s.now v h) (bounded s most v)

module _ (most v c : ℕ) (s : List ℕ) where
  go : is_digit c ≡ false → digits v (c ∷ s) ≡ record { value = v; rest = c ∷ s }
  unfolding digits
  go e = rw e

  pub digits_stop : (r : Bor (List ℕ)) → r.now ≡ c ∷ s → is_digit c ≡ false → at_most most (digits v (c ∷ s)) ≡ number_of (then_some (leb v most) (v, r))
  digits_stop r q e = rw (go e, ← q) (bounded r most v)

  pub digits_next : is_digit c ≡ true → at_most most (digits v (c ∷ s)) ≡ at_most most (digits (v * 10 + (c - 48)) s)
  unfolding digits
  digits_next e = rw e

  pub digits_over : is_digit c ≡ true → most < v * 10 + (c - 48) → at_most most (digits v (c ∷ s)) ≡ None
  digits_over e m = digits_next e ∙ too_much s (v * 10 + (c - 48)) most m

module _ (most : ℕ) where
  pub whole_number_short : (s : List ℕ) → length s ≡ 0 → whole_number most s ≡ None
  unfolding whole_number
  whole_number_short [] h = refl
  whole_number_short (c ∷ s) h = absurd (omega arith)

  module _ (c : ℕ) (s : List ℕ) where
    pub whole_number_zero : c ≡ 48 → whole_number most (c ∷ s) ≡ got 0 s
    unfolding whole_number
    whole_number_zero e = rw (eq-eqb c 48 e)

    pub whole_number_low : c < 48 → whole_number most (c ∷ s) ≡ None
    unfolding whole_number
    whole_number_low e = rw (ne_eqb c 48 (λ q. omega arith), no_digit c e)

    pub whole_number_high : 57 < c → whole_number most (c ∷ s) ≡ None
    unfolding whole_number
    whole_number_high e = rw (ne_eqb c 48 (λ q. omega arith), no_digit_high c e)

    pub whole_number_go : 48 < c → c ≤ 57 → whole_number most (c ∷ s) ≡ at_most most (digits (c - 48) s)
    unfolding whole_number
    whole_number_go k l = rw (ne_eqb c 48 (λ q. omega arith), digit c (omega arith) l)

pub number_is : (most : ℕ) (s : List ℕ) → number most s ≡ whole_number most (skip_white_space s)
unfolding number
number_is most s = refl

-- What follows an answer of the code

module _ {A B : Type 0} (f : A → Parser B) where
  pub after_got : (a : A) (s : List ℕ) → after (got a s) f ≡ f a s
  unfolding after
  after_got a s = refl

  pub after_none : after None f ≡ None
  unfolding after
  after_none = refl

pub ruleset steps = (after_got, after_none)

pub ruleset scans = (
  skip_white_space_found,
  skip_white_space_next,
  skip_white_space_end,
  literal_short,
  literal_differ,
  literal_next,
  literal_end,
  lexeme_is,
  digits_end,
  digits_stop,
  digits_next,
  digits_over,
  whole_number_short,
  whole_number_zero,
  whole_number_low,
  whole_number_high,
  whole_number_go,
  number_is,
)
