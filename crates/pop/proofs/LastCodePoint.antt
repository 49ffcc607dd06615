-- The search for a text's last code point, from the end.
--   pop_start, pop_low, pop_high, pop_next, pop_none    the text that is left has the same last code point
--   last                                        these as rules for `search`
-- Assumes nothing.
use mathlib.Core.Path.{◌≡◌, refl, sym, ap, ◌∙◌}
use mathlib.Core.Bool.{Bool, true, false, cond, ◌&&◌}
use mathlib.Core.List.{List, [], ◌∷◌, ◌++◌, reverse, reverse-append, reverse-reverse}
use Prim.Native.Nat.{ℕ, suc, ◌-◌, ◌≤◌, ◌<◌}
use native.Mathlib.Omega.{arith}
use borrow.Author.Tests.{le-leb, lt-leb, lt-ltb, le-ltb}
use lib.Dec.{leb, ltb}
use lib.ListN.{length, take, get_or}
use lib.Seq.{take-suc, take-length}
use Rattle.definitions.specs.ToFor.{pop_reversed, pop}

pop_snoc : (xs : List ℕ) (b : ℕ) → pop (xs ++ (b ∷ [])) ≡ cond (leb 128 b && ltb b 192) (pop xs) xs
unfolding pop_reversed
pop_snoc xs b = rw (reverse-append xs (b ∷ [])) (go (leb 128 b && ltb b 192))
  where
    go : (c : Bool) → reverse (cond c (pop_reversed (reverse xs)) (reverse xs)) ≡ cond c (pop xs) xs
    go true = refl
    go false = reverse-reverse xs

module _ (s : List ℕ) (n : ℕ) (le : n ≤ length s) (inv : pop s ≡ pop (take n s)) (h : 0 < n) where
  pop_step : pop s ≡ cond (leb 128 (get_or s (n - 1) 0) && ltb (get_or s (n - 1) 0) 192) (pop (take (n - 1) s)) (take (n - 1) s)
  pop_step =
      let z : n ≡ suc (n - 1) = omega arith in
      inv ∙ (ap (λ m. pop (take m s)) z ∙ (ap pop (take-suc s (n - 1) 0 (omega arith)) ∙ pop_snoc (take (n - 1) s) (get_or s (n - 1) 0)))

  pub pop_low : get_or s (n - 1) 0 < 128 → take (n - 1) s ≡ pop s
  pop_low b = sym (pop_step ∙ rw (lt-leb 128 (get_or s (n - 1) 0) b))

  module _ (a : 128 ≤ get_or s (n - 1) 0) where
    pub pop_high : 192 ≤ get_or s (n - 1) 0 → take (n - 1) s ≡ pop s
    pop_high b = sym (pop_step ∙ rw (le-leb 128 (get_or s (n - 1) 0) a, le-ltb (get_or s (n - 1) 0) 192 b))

    pub pop_next : get_or s (n - 1) 0 < 192 → pop s ≡ pop (take (n - 1) s)
    pop_next b = pop_step ∙ rw (le-leb 128 (get_or s (n - 1) 0) a, lt-ltb (get_or s (n - 1) 0) 192 b)

pub pop_none : (s : List ℕ) (n : ℕ) → pop s ≡ pop (take n s) → n ≤ 0 → take 0 s ≡ pop s
unfolding pop_reversed
pop_none s n inv h = let z : n ≡ 0 = omega arith in sym (inv ∙ rw z)

pub pop_start : (s : List ℕ) → pop s ≡ pop (take (length s) s)
pop_start s = ap pop (sym (take-length s))

pub ruleset last = (pop_start, pop_low, pop_high, pop_next, pop_none)
