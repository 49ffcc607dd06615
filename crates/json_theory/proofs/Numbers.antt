-- The reader reads the writer's numbers.
--   number_read         before a byte that is no digit
--   number_no_lexeme    and they start with no word of letters
-- Assumes nothing.
use Rattle.std.specs.Prelude.{None}
use Prim.Native.Nat.{ℕ, zero, suc, ◌+◌, ◌*◌, ◌-◌, ◌/◌, ◌%◌, ◌≤◌, ◌<◌}
use mathlib.Core.Path.{◌≡◌, refl}
use mathlib.Core.Bool.{Bool, true, false}
use mathlib.Core.List.{List, [], ◌∷◌, ◌++◌, append_assoc}
use native.Mathlib.Omega.{arith}
use borrow.Author.Tests.{ne_eqb, le-leb, ltb-true, ltb-false}
use lib.Dec.{ltb}
use Rattle.json_definitions.specs.Parser.{got, literal, skip_white_space, lexeme}
use Rattle.json_definitions.specs.Reader.{is_digit, digits, at_most, whole_number, number}
use Rattle.json_definitions.specs.Writer.{digits_of, decimal}

digit : (c : ℕ) → 48 ≤ c → c ≤ 57 → is_digit c ≡ true
digit c h k = rw (le-leb 48 c h, le-leb c 57 k)

-- digits_of starts with a digit
no_blank : (f n : ℕ) (x : List ℕ) → n ≤ f → skip_white_space (digits_of f n ++ x) ≡ digits_of f n ++ x
unfolding digits_of skip_white_space
no_blank zero n x h = rw (ne_eqb (48 + n) 32 (λ e. omega arith), ne_eqb (48 + n) 9 (λ e. omega arith), ne_eqb (48 + n) 10 (λ e. omega arith), ne_eqb (48 + n) 13 (λ e. omega arith))
no_blank (suc f) n x h = go (ltb n 10) refl (λ y k. no_blank f (n / 10) y k)
  where
    go : (b : Bool) → ltb n 10 ≡ b → ((y : List ℕ) → n / 10 ≤ f → skip_white_space (digits_of f (n / 10) ++ y) ≡ digits_of f (n / 10) ++ y) → skip_white_space (digits_of (suc f) n ++ x) ≡ digits_of (suc f) n ++ x
    go true e ih = rw (e, ne_eqb (48 + n) 32 (λ e. omega arith), ne_eqb (48 + n) 9 (λ e. omega arith), ne_eqb (48 + n) 10 (λ e. omega arith), ne_eqb (48 + n) 13 (λ e. omega arith))
    go false e ih = let k : 10 ≤ n = ltb-false n 10 e in rw (e, append_assoc (digits_of f (n / 10)) ((48 + n % 10) ∷ []) x) (ih _ (omega arith))

-- and so is none of the words that start otherwise
no_word : (a : ℕ) (w : List ℕ) → 58 ≤ a → (f n : ℕ) (x : List ℕ) → n ≤ f → literal (a ∷ w) (digits_of f n ++ x) ≡ None
unfolding digits_of literal
no_word a w b zero n x h = rw (ne_eqb (48 + n) a (λ e. omega arith))
no_word a w b (suc f) n x h = go (ltb n 10) refl (λ y k. no_word a w b f (n / 10) y k)
  where
    go : (b : Bool) → ltb n 10 ≡ b → ((y : List ℕ) → n / 10 ≤ f → literal (a ∷ w) (digits_of f (n / 10) ++ y) ≡ None) → literal (a ∷ w) (digits_of (suc f) n ++ x) ≡ None
    go true e ih = let k : n < 10 = ltb-true n 10 e in rw (e, ne_eqb (48 + n) a (λ e. omega arith))
    go false e ih = let k : 10 ≤ n = ltb-false n 10 e in rw (e, append_assoc (digits_of f (n / 10)) ((48 + n % 10) ∷ []) x) (ih _ (omega arith))

-- the digits of n are read as n
reads : (m f n : ℕ) (x : List ℕ) → n ≤ f → 0 < n → whole_number m (digits_of f n ++ x) ≡ at_most m (digits n x)
unfolding digits_of whole_number digits
reads m zero n x h p = absurd (omega arith)
reads m (suc f) n x h p = go (ltb n 10) refl (λ y k l. reads m f (n / 10) y k l)
  where
    go : (b : Bool) → ltb n 10 ≡ b → ((y : List ℕ) → n / 10 ≤ f → 0 < n / 10 → whole_number m (digits_of f (n / 10) ++ y) ≡ at_most m (digits (n / 10) y))
        → whole_number m (digits_of (suc f) n ++ x) ≡ at_most m (digits n x)
    go true e ih =
        let k : n < 10 = ltb-true n 10 e in
        let v : (48 + n) - 48 ≡ n = omega arith in
        rw (e, ne_eqb (48 + n) 48 (λ e. omega arith), digit (48 + n) (omega arith) (omega arith), v)
    go false e ih =
        let k : 10 ≤ n = ltb-false n 10 e in
        let v : n / 10 * 10 + ((48 + n % 10) - 48) ≡ n = omega arith in
        rw (e, append_assoc (digits_of f (n / 10)) ((48 + n % 10) ∷ []) x, ih _ (omega arith) (omega arith), digit (48 + n % 10) (omega arith) (omega arith), v)

-- a number that the writer wrote, before a byte that is no digit
pub number_read : (m n c : ℕ) (r : List ℕ) → n ≤ m → is_digit c ≡ false → number m (decimal n ++ (c ∷ r)) ≡ got n (c ∷ r)
unfolding number decimal
number_read m n c r h d = rw (no_blank n n (c ∷ r) (omega arith)) (go n h)
  where
    go : (n : ℕ) → n ≤ m → whole_number m (digits_of n n ++ (c ∷ r)) ≡ got n (c ∷ r)
    go zero h = unfold digits_of whole_number in refl
    go (suc k) h = rw (reads m (suc k) (suc k) (c ∷ r) (omega arith) (omega arith)) (unfold digits at_most in rw (d, le-leb (suc k) m h))

pub number_no_lexeme : (a n : ℕ) (w r : List ℕ) → 58 ≤ a → lexeme (a ∷ w) (decimal n ++ r) ≡ None
unfolding lexeme decimal
number_no_lexeme a n w r h = rw (no_blank n n r (omega arith)) (no_word a w h n n r (omega arith))
