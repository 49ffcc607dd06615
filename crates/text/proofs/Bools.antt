-- Rules for `search` at a return: by the tests that led there, a Bool or a choice of the contract is known.
-- b is a flag of the code, of which the contract's test x is known to be the value; k is a number of the code, known to be the contract's a.
--   and_go, and_no        x && y where b is true, false
--   and_stop, or_stop     x && y where b is false, x || y where it is true, of the flag itself
--   or_yes, or_go         x || y where b is true, false
--   not_yes, not_no       not x
--   implies_go, implies_no     not x || y
--   cond_yes, cond_no     if x then y else z
--   and-T-go, and-T-no, or-T-yes, or-T-go, cond-T-yes, cond-T-no    the same where the code compares numbers: T is eq, le or lt
--   cond_is_yes, cond_is_no    where the code compares the contract's own number
--   eqb_of, leb_of, ltb_of     a comparison that the code hands on
-- Assumes nothing.
use mathlib.Core.Path.{◌≡◌}
use mathlib.Core.Bool.{Bool, true, false, ◌&&◌, ◌||◌, not, cond}
use Prim.Native.Nat.{ℕ, ◌≤◌, ◌<◌}
use borrow.Author.Tests.{eq-eqb, ne_eqb, le-leb, lt-leb, lt-ltb, le-ltb}
use lib.Dec.{eqb, leb, ltb}

module _ (b x : Bool) (e : b ≡ x) where
  module _ (y : Bool) where
    pub and_no : b ≡ false → false ≡ (x && y)
    and_no f = rw (← e, f)

    pub and_stop : b ≡ false → b ≡ (x && y)
    and_stop f = rw (← e, f)

    pub or_yes : b ≡ true → true ≡ (x || y)
    or_yes f = rw (← e, f)

    pub or_stop : b ≡ true → b ≡ (x || y)
    or_stop f = rw (← e, f)

    pub implies_no : b ≡ false → true ≡ (not x || y)
    implies_no f = rw (← e, f)

    module _ (r : Bool) where
      pub and_go : b ≡ true → r ≡ y → r ≡ (x && y)
      and_go f g = rw (← e, f) g

      pub or_go : b ≡ false → r ≡ y → r ≡ (x || y)
      or_go f g = rw (← e, f) g

      pub implies_go : b ≡ true → r ≡ y → r ≡ (not x || y)
      implies_go f g = rw (← e, f) g

  pub not_yes : b ≡ true → false ≡ not x
  not_yes f = rw (← e, f)

  pub not_no : b ≡ false → true ≡ not x
  not_no f = rw (← e, f)

  module _ {A : Type 0} (y z r : A) where
    pub cond_yes : b ≡ true → r ≡ y → r ≡ cond x y z
    cond_yes f g = rw (← e, f) g

    pub cond_no : b ≡ false → r ≡ z → r ≡ cond x y z
    cond_no f g = rw (← e, f) g

module _ (k a c : ℕ) (e : k ≡ a) where
  module _ (y : Bool) where
    pub and_eq_no : (k ≡ c → ⊥) → false ≡ (eqb a c && y)
    and_eq_no f = rw (← e, ne_eqb k c f)

    pub and_le_no : c < k → false ≡ (leb a c && y)
    and_le_no f = rw (← e, lt-leb k c f)

    pub and_lt_no : c ≤ k → false ≡ (ltb a c && y)
    and_lt_no f = rw (← e, le-ltb k c f)

    pub or_eq_yes : k ≡ c → true ≡ (eqb a c || y)
    or_eq_yes f = rw (← e, eq-eqb k c f)

    pub or_le_yes : k ≤ c → true ≡ (leb a c || y)
    or_le_yes f = rw (← e, le-leb k c f)

    pub or_lt_yes : k < c → true ≡ (ltb a c || y)
    or_lt_yes f = rw (← e, lt-ltb k c f)

    module _ (r : Bool) (g : r ≡ y) where
      pub and_eq_go : k ≡ c → r ≡ (eqb a c && y)
      and_eq_go f = rw (← e, eq-eqb k c f) g

      pub and_le_go : k ≤ c → r ≡ (leb a c && y)
      and_le_go f = rw (← e, le-leb k c f) g

      pub and_lt_go : k < c → r ≡ (ltb a c && y)
      and_lt_go f = rw (← e, lt-ltb k c f) g

      pub or_eq_go : (k ≡ c → ⊥) → r ≡ (eqb a c || y)
      or_eq_go f = rw (← e, ne_eqb k c f) g

      pub or_le_go : c < k → r ≡ (leb a c || y)
      or_le_go f = rw (← e, lt-leb k c f) g

      pub or_lt_go : c ≤ k → r ≡ (ltb a c || y)
      or_lt_go f = rw (← e, le-ltb k c f) g

  module _ {A : Type 0} (y z r : A) where
    pub cond_eq_yes : k ≡ c → r ≡ y → r ≡ cond (eqb a c) y z
    cond_eq_yes f g = rw (← e, eq-eqb k c f) g

    pub cond_eq_no : (k ≡ c → ⊥) → r ≡ z → r ≡ cond (eqb a c) y z
    cond_eq_no f g = rw (← e, ne_eqb k c f) g

    pub cond_le_yes : k ≤ c → r ≡ y → r ≡ cond (leb a c) y z
    cond_le_yes f g = rw (← e, le-leb k c f) g

    pub cond_le_no : c < k → r ≡ z → r ≡ cond (leb a c) y z
    cond_le_no f g = rw (← e, lt-leb k c f) g

    pub cond_lt_yes : k < c → r ≡ y → r ≡ cond (ltb a c) y z
    cond_lt_yes f g = rw (← e, lt-ltb k c f) g

    pub cond_lt_no : c ≤ k → r ≡ z → r ≡ cond (ltb a c) y z
    cond_lt_no f g = rw (← e, le-ltb k c f) g

  pub eqb_of : eqb k c ≡ eqb a c
  eqb_of = rw e

  pub leb_of : leb k c ≡ leb a c
  leb_of = rw e

  pub ltb_of : ltb k c ≡ ltb a c
  ltb_of = rw e

module _ {A : Type 0} (a c : ℕ) (y z r : A) where
  pub cond_is_yes : a ≡ c → r ≡ y → r ≡ cond (eqb a c) y z
  cond_is_yes f g = rw (eq-eqb a c f) g

  pub cond_is_no : (a ≡ c → ⊥) → r ≡ z → r ≡ cond (eqb a c) y z
  cond_is_no f g = rw (ne_eqb a c f) g

pub ruleset bools = (and_no, and_go, and_stop, or_yes, or_go, or_stop, not_yes, not_no, implies_no, implies_go, cond_yes, cond_no, and_eq_no, and_eq_go, and_le_no, and_le_go, and_lt_no, and_lt_go, or_eq_yes, or_eq_go, or_le_yes, or_le_go, or_lt_yes, or_lt_go, cond_eq_yes, cond_eq_no, cond_le_yes, cond_le_no, cond_lt_yes, cond_lt_no, cond_is_yes, cond_is_no, eqb_of, leb_of, ltb_of)
