-- Conditions, as rules for `search`.
--   closing_brace, closing_semicolon, closing_none    how many bytes the last token loses
--   closes_of                                         the same of the text that a part is
--   condition_none, condition_past, condition_shut, condition_open     no condition: no keyword, nothing behind it, no ` (`, no end
--   condition_is                                      the condition
-- Assumes nothing.
use Rattle.std.specs.Prelude.{Option, None, Some, slice_get}
use mathlib.Core.Path.{◌≡◌, refl, sym, ◌∙◌}
use mathlib.Core.Bool.{Bool, true, false}
use mathlib.Core.List.{List, [], ◌∷◌}
use Prim.Native.Nat.{ℕ, zero, suc, ◌+◌, ◌-◌, ◌≤◌, ◌<◌}
use native.Mathlib.Nat.{le_of_suc-le-suc, not-suc-le-zero}
use native.Mathlib.Omega.{arith}
use lib.ListN.{length, get_or, drop}
use Rattle.definitions.specs.Lists.{◌>>=◌, require, position, last, starts_with, ends_with, ascii}
use Rattle.definitions.specs.Model.{Line, no_token, token}
use Rattle.definitions.specs.Statements.{is_kw}
use Rattle.definitions.specs.Condition.{cut, closing, condition}

-- The end

module _ (s : List ℕ) (b : Bool) (p : b ≡ ends_with (ascii ") {") s) where
  pub closing_brace : b ≡ true → Some 3 ≡ closing s
  unfolding closing
  closing_brace f = rw (← p, f)

  module _ (f : b ≡ false) (c : Bool) (q : c ≡ ends_with (ascii ");") s) where
    pub closing_semicolon : c ≡ true → Some 2 ≡ closing s
    unfolding closing
    closing_semicolon g = rw (← p, f, ← q, g)

    pub closing_none : c ≡ false → None ≡ closing s
    unfolding closing
    closing_none g = rw (← p, f, ← q, g)

pub closes_of : (o : Option ℕ) (s : List ℕ) (l : Line) (n m : ℕ) → o ≡ closing s → s ≡ (token l m).text → m ≡ n - 1
    → o ≡ closing (token l (n - 1)).text
closes_of o s l n m e q d = rw (← d, ← q) e

-- Elements that may be missing

module _ {A : Type 0} (d : A) where
  element_some : (xs : List A) (k : ℕ) → k < length xs → slice_get xs k ≡ Some (get_or xs k d)
  element_some [] k h = absurd (not-suc-le-zero h)
  element_some (x ∷ xs) zero h = refl
  element_some (x ∷ xs) (suc k) h = element_some xs k (le_of_suc-le-suc h)

  element_none : (xs : List A) (k : ℕ) → length xs ≤ k → slice_get xs k ≡ None
  element_none [] k h = refl
  element_none (x ∷ xs) zero h = absurd (not-suc-le-zero h)
  element_none (x ∷ xs) (suc k) h = element_none xs k (le_of_suc-le-suc h)

  last_some : (xs : List A) (k : ℕ) → length xs ≡ suc k → last xs ≡ Some (get_or xs k d)
  unfolding last
  last_some [] k h = absurd (omega arith)
  last_some (x ∷ []) zero h = refl
  last_some (x ∷ []) (suc k) h = absurd (omega arith)
  last_some (x ∷ (y ∷ xs)) zero h = absurd (omega arith)
  last_some (x ∷ (y ∷ xs)) (suc k) h = last_some (y ∷ xs) k (omega arith)

-- The condition

module _ (l : Line) (kw : List ℕ) (f : Option ℕ) (e : f ≡ position (is_kw kw) l.tokens) where
  pub condition_none : f ≡ None → None ≡ condition l kw
  unfolding condition
  condition_none q = rw (← e, q)

  module _ (k n m : ℕ) (q : f ≡ Some k) (c : n ≡ length l.tokens) (d : m ≡ n - 1) where
    pub condition_past : m ≤ k → None ≡ condition l kw
    unfolding condition
    condition_past h = rw (← e, q, element_none no_token l.tokens (k + 1) (omega arith))

    module _ (h : k < m) (b : Bool) (y : b ≡ starts_with (ascii " (") (token l (k + 1)).text) where
      condition_step : condition l kw
          ≡ (require b >>= λ _. closing (token l (n - 1)).text >>= λ z. Some (cut 2 z (drop (k + 1) l.tokens)))
      unfolding condition
      condition_step =
          rw (← e, q, element_some no_token l.tokens (k + 1) (omega arith), last_some no_token l.tokens (n - 1) (omega arith), ← y)

      pub condition_shut : b ≡ false → None ≡ condition l kw
      condition_shut g = sym (condition_step ∙ rw g)

      module _ (g : b ≡ true) (o : Option ℕ) (r : o ≡ closing (token l (n - 1)).text) where
        pub condition_open : o ≡ None → None ≡ condition l kw
        condition_open i = sym (condition_step ∙ rw (g, ← r, i))

        pub condition_is : (z : ℕ) → o ≡ Some z → Some (cut 2 z (drop (k + 1) l.tokens)) ≡ condition l kw
        condition_is z i = sym (condition_step ∙ rw (g, ← r, i))

pub ruleset conditions = (closing_brace, closing_semicolon, closing_none, closes_of, condition_none, condition_past, condition_shut, condition_open, condition_is)
