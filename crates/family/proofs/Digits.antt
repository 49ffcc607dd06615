-- Names of `r` and digits, and of `var_`.
--   digits_low, digits_high, digits_next, digits_end    the loop over digits
--   is_numbered_by, flag, no_flag    `r` and one or more digits, by where the digits end
--   numbered_some, numbered_none    the family, by the width that the suffix says
--   other_numbered, other_var, other_none    a name that is not in the table
-- Assumes nothing.
use Rattle.std.specs.Prelude.{if◌then◌else◌, Option, None, Some}
use mathlib.Core.Path.{◌≡◌, refl, sym, ap, ◌∙◌}
use mathlib.Core.Bool.{Bool, true, false, ◌&&◌, not, cond, and-false, and-true, ◌||◌}
use mathlib.Core.List.{List, [], ◌∷◌, ◌++◌}
use Prim.Native.Nat.{ℕ, suc, ◌+◌, ◌≤◌, ◌<◌}
use native.Mathlib.Nat.{sub-zero}
use native.Mathlib.Numerals.{one-add}
use native.Mathlib.Omega.{arith}
use borrow.Author.Tests.{le-leb, lt-leb, lt-ltb, le-ltb, ne_eqb, eqb-true}
use lib.Dec.{leb, eqb, ltb}
use lib.ListN.{length, get_or, take, drop}
use Rattle.definitions.specs.Lists.{◌≟◌, starts_with, ascii, part, take_while}
use Rattle.definitions.specs.Family.{digits, suffix_width, is_numbered, numbered_family}
use Rattle.text.proofs.Parts.{drop_step, drop_end, part_tail}
use Rattle.family.specs.declared.Register.{Register}
use Rattle.family.specs.declared.Register.TheVariants.{Numbered}
use Rattle.family.specs.Register.{digit_count, number_end, family_of, rest_family}

-- Digits

abbrev is_digit : ℕ → Bool
is_digit c = leb 48 c && leb c 57

module _ (s : List ℕ) (i : ℕ) where
  count_step : i < length s → digit_count (drop i s) ≡ length (cond (is_digit (get_or s i 0)) (get_or s i 0 ∷ digits (drop (i + 1) s)) [])
  unfolding digit_count take_while
  count_step h = rw (drop_step 0 s i h)

  module _ (w : ℕ) (inv : w ≡ i + digit_count (drop i s)) where
    module _ (h : i < length s) where
      pub digits_low : get_or s i 0 < 48 → i ≡ w
      digits_low a =
          let z : digit_count (drop i s) ≡ 0 = count_step h ∙ rw (lt-leb 48 (get_or s i 0) a) in
          omega arith

      pub digits_high : 57 < get_or s i 0 → i ≡ w
      digits_high a =
          let z : digit_count (drop i s) ≡ 0 = count_step h ∙ rw (lt-leb (get_or s i 0) 57 a, and-false (leb 48 (get_or s i 0))) in
          omega arith

      pub digits_next : 48 ≤ get_or s i 0 → get_or s i 0 ≤ 57 → w ≡ i + 1 + digit_count (drop (i + 1) s)
      unfolding digit_count
      digits_next a b =
          let z : digit_count (drop i s) ≡ suc (digit_count (drop (i + 1) s)) = count_step h ∙ rw (le-leb 48 (get_or s i 0) a, le-leb (get_or s i 0) 57 b) in
          omega arith

    pub digits_end : length s ≤ i → i ≡ w
    unfolding digit_count take_while
    digits_end h =
        let z : digit_count (drop i s) ≡ 0 = rw (drop_end s i h) in
        omega arith

-- The width

module _ (c : ℕ) where
  by_letter : suffix_width (c ∷ []) ≡ (if eqb c 100 then Some 32 else if eqb c 119 then Some 16 else if eqb c 98 || eqb c 108 then Some 8 else None)
  unfolding suffix_width ◌≟◌
  by_letter = rw (and-true (eqb c 100), and-true (eqb c 119), and-true (eqb c 98), and-true (eqb c 108))

  pub width_32 : c ≡ 100 → Some 32 ≡ suffix_width (c ∷ [])
  width_32 e = sym (by_letter ∙ rw e)

  pub width_16 : c ≡ 119 → Some 16 ≡ suffix_width (c ∷ [])
  width_16 e = sym (by_letter ∙ rw e)

  pub width_8 : c ≡ 98 → Some 8 ≡ suffix_width (c ∷ [])
  width_8 e = sym (by_letter ∙ rw e)

  pub width_8_low : c ≡ 108 → Some 8 ≡ suffix_width (c ∷ [])
  width_8_low e = sym (by_letter ∙ rw e)

  pub width_none : (c ≡ 100 → ⊥) → (c ≡ 119 → ⊥) → (c ≡ 98 → ⊥) → (c ≡ 108 → ⊥) → None ≡ suffix_width (c ∷ [])
  width_none d w b l = sym (by_letter ∙ rw (ne_eqb c 100 d, ne_eqb c 119 w, ne_eqb c 98 b, ne_eqb c 108 l))

pub width_empty : (s : List ℕ) → length s < 1 → Some 64 ≡ suffix_width s
unfolding suffix_width ◌≟◌
width_empty [] h = refl
width_empty (c ∷ s) h = absurd (omega arith)

pub width_letter : (s : List ℕ) (r : Option ℕ) → 1 ≤ length s → length s < 2 → r ≡ suffix_width (get_or s 0 0 ∷ []) → r ≡ suffix_width s
width_letter [] r h g e = absurd (omega arith)
width_letter (c ∷ []) r h g e = e
width_letter (c ∷ (d ∷ s)) r h g e = absurd (omega arith)

pub width_long : (s : List ℕ) → 2 ≤ length s → None ≡ suffix_width s
unfolding suffix_width ◌≟◌
width_long [] h = absurd (omega arith)
width_long (c ∷ []) h = absurd (omega arith)
width_long (c ∷ (d ∷ s)) h = rw (and-false (eqb c 100), and-false (eqb c 119), and-false (eqb c 98), and-false (eqb c 108))

pub ruleset suffixes = (width_32, width_16, width_8, width_8_low, width_none, width_empty, width_letter, width_long)

-- `r` and digits

some_digits : (xs : List ℕ) → ltb 1 (1 + length xs) ≡ not (xs ≟ [])
unfolding ◌≟◌
some_digits [] = refl
some_digits (x ∷ xs) = lt-ltb 1 (1 + suc (length xs)) (omega arith)

digits_part : (s : List ℕ) → take (length (digits s)) s ≡ digits s
unfolding take_while
digits_part [] = refl
digits_part (c ∷ s) = go (is_digit c) (digits_part s)
  where
    go : (b : Bool) → take (length (digits s)) s ≡ digits s → take (length (cond b (c ∷ digits s) [])) (c ∷ s) ≡ cond b (c ∷ digits s) []
    go true e = ap (λ (l : List ℕ). c ∷ l) e
    go false e = refl

numbered_part : (s : List ℕ) → starts_with (ascii "r") s ≡ true → part 0 (1 + digit_count (drop 1 s)) s ≡ ascii "r" ++ digits (drop 1 s)
unfolding starts_with digit_count
numbered_part [] h = cc
numbered_part (c ∷ s) h = go (eqb 114 c) refl h
  where
    go : (b : Bool) → eqb 114 c ≡ b → (b && true) ≡ true → part 0 (1 + length (digits s)) (c ∷ s) ≡ 114 ∷ digits s
    go true e q = rw (sub-zero (1 + length (digits s)), one-add (length (digits s)), ← eqb-true 114 c e, digits_part s)
    go false e q = cc

first_part : (a b : Bool) → (a && b) ≡ true → a ≡ true
first_part true b h = refl
first_part false b h = h

module _ (s : List ℕ) (n : ℕ) (e : n ≡ number_end s) where
  pub is_numbered_by : ltb 1 n ≡ is_numbered s
  unfolding digit_count
  is_numbered_by = go (starts_with (ascii "r") s) e
    where
      go : (b : Bool) → n ≡ cond b (1 + digit_count (drop 1 s)) 0 → ltb 1 n ≡ (b && not (digits (drop 1 s) ≟ []))
      go true q = rw q (some_digits (digits (drop 1 s)))
      go false q = rw q

  module _ (h : 1 < n) where
    pub flag : is_numbered s ≡ true
    flag = sym is_numbered_by ∙ lt-ltb 1 n h

    starts : starts_with (ascii "r") s ≡ true
    starts = first_part (starts_with (ascii "r") s) (not (digits (drop 1 s) ≟ [])) flag

    ends : n ≡ 1 + digit_count (drop 1 s)
    ends = e ∙ rw starts

    module _ (x : List ℕ) (o : Option ℕ) (q : o ≡ suffix_width x) (p : x ≡ part n (length s) s) where
      suffix : suffix_width (drop (1 + digit_count (drop 1 s)) s) ≡ o
      suffix = rw (← ends, ← part_tail s n, ← p) (sym q)

      pub numbered_some : (w : ℕ) → o ≡ Some w → family_of s (Some (Numbered n w)) ≡ numbered_family s
      unfolding digit_count
      numbered_some w f = rw (suffix, f, ends, numbered_part s starts)

      pub numbered_none : o ≡ None → None ≡ numbered_family s
      unfolding digit_count
      numbered_none f = rw (suffix, f)

    pub other_numbered : (r : Option Register) → family_of s r ≡ numbered_family s → family_of s r ≡ rest_family s
    other_numbered r g = rw flag g

  pub no_flag : n ≤ 1 → is_numbered s ≡ false
  no_flag h = sym is_numbered_by ∙ le-ltb 1 n h

module _ (s : List ℕ) (f : is_numbered s ≡ false) (v : Bool) (p : v ≡ starts_with (ascii "var_") s) where
  pub other_var : v ≡ true → Some (record { name = s; width = 64 }) ≡ rest_family s
  other_var g = rw (f, ← p, g)

  pub other_none : v ≡ false → None ≡ rest_family s
  other_none g = rw (f, ← p, g)

pub ruleset digit_rules = (digits_low, digits_high, digits_next, digits_end, numbered_some, numbered_none, no_flag, other_var, other_none)
