-- Rules for `search` at a `&&` of which one side is known: `&&` leans to the left, so its left side may be one too.
--   both                          a `&&` that is true has both sides true
--   and_left_no, and_left_go      by its left side: that is false, that is true
--   and_right_no, and_right_go    by its right side
--   flag_yes, flag_no             a flag of the code, true or false, whose value a side is
--   eq_yes, eq_no, le_yes, le_no  a comparison of the code, whose value a side is
--   ands                          the rules
-- Assumes nothing.
use mathlib.Core.Path.{◌≡◌, refl, sym, ◌∙◌}
use mathlib.Core.Bool.{Bool, true, false, ◌&&◌, and-false, and-true, false≢true}
use Prim.Native.Nat.{ℕ, ◌≤◌, ◌<◌}
use borrow.Author.Tests.{eq-eqb, ne_eqb, le-leb, lt-leb}
use lib.Dec.{eqb, leb}

pub both : (a b : Bool) → (a && b) ≡ true → (a ≡ true) × (b ≡ true)
both true b e = (refl, e)
both false b e = absurd (false≢true e)

module _ (x y : Bool) where
  pub and_left_no : false ≡ x → false ≡ (x && y)
  and_left_no e = rw (← e)

  pub and_right_no : false ≡ y → false ≡ (x && y)
  and_right_no e = rw (← e) (sym (and-false x))

  module _ (r : Bool) where
    pub and_left_go : true ≡ x → r ≡ y → r ≡ (x && y)
    and_left_go e f = rw (← e) f

    pub and_right_go : true ≡ y → r ≡ x → r ≡ (x && y)
    and_right_go e f = rw (← e) (f ∙ sym (and-true x))

module _ (b x : Bool) (e : b ≡ x) where
  pub flag_yes : b ≡ true → true ≡ x
  flag_yes f = rw f at e

  pub flag_no : b ≡ false → false ≡ x
  flag_no f = rw f at e

module _ (k a c : ℕ) (e : k ≡ a) where
  pub eq_yes : k ≡ c → true ≡ eqb a c
  eq_yes f = rw (← e) (sym (eq-eqb k c f))

  pub eq_no : (k ≡ c → ⊥) → false ≡ eqb a c
  eq_no f = rw (← e) (sym (ne_eqb k c f))

module _ (a b : ℕ) where
  pub le_yes : a ≤ b → true ≡ leb a b
  le_yes h = sym (le-leb a b h)

  pub le_no : b < a → false ≡ leb a b
  le_no h = sym (lt-leb a b h)

pub ruleset ands = (and_left_no, and_right_no, and_left_go, and_right_go, flag_yes, flag_no, eq_yes, eq_no, le_yes, le_no)
