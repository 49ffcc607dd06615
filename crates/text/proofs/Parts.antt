-- Laws of `part`, `take` and `drop`. An index counts up by `i + 1`, as the code's does.
--   drop_step        drop i l is the element at i and drop (i + 1) l
--   drop_end         drop i l is empty from the length on
--   part_step        part k e l is the element at k and part (k + 1) e l
--   part_get         the element at j of part a e l is that at a + j of l
--   part_none        a part that ends where it starts, or before, is empty
--   part_past        a part that starts at the length, or behind it, is empty
--   part_tail        part a (length l) l is drop a l
--   part_clamp       a part that ends behind the list ends with it
--   part_join        part a b l and part b e l together are part a e l
--   part_part        a part of a part is a part
--   length_part      the length of a part
-- Assumes nothing.
use mathlib.Core.Path.{◌≡◌, sym, ◌∙◌}
use mathlib.Core.List.{List, [], ◌∷◌, ◌++◌}
use Prim.Native.Nat.{ℕ, zero, suc, ◌+◌, ◌-◌, ◌≤◌, ◌<◌, min}
use native.Mathlib.Nat.{sub-zero, zero-sub, suc-sub-suc}
use native.Mathlib.Numerals.{add-one}
use native.Mathlib.Omega.{arith}
use lib.ListN.{length, get_or, take, drop, length-take, length-drop, drop_of_length-le}
use lib.Seq.{drop-cons, take_all, take-nil, get_or-take, get_or-drop, take-add, drop-drop, take-take}
use Rattle.definitions.specs.Lists.{part}

module _ {A : Type 0} (d : A) (l : List A) where
  pub drop_step : (i : ℕ) → i < length l → drop i l ≡ get_or l i d ∷ drop (i + 1) l
  drop_step i h = rw (add-one, drop-cons l i d)

  pub part_step : (k e : ℕ) → k < e → e ≤ length l → part k e l ≡ get_or l k d ∷ part (k + 1) e l
  part_step k e h b =
      let z : e - k ≡ suc (e - (k + 1)) = omega arith in
      let i : k < length l = omega arith in
      rw (z, drop_step k i)

  pub part_get : (a e j : ℕ) → j < e - a → get_or (part a e l) j d ≡ get_or l (a + j) d
  part_get a e j h = rw (get_or-take (e - a) (drop a l) j d h, get_or-drop a l j d)

drop_take : {A : Type 0} (a n : ℕ) (l : List A) → drop a (take n l) ≡ take (n - a) (drop a l)
drop_take zero n l = rw (sub-zero n)
drop_take (suc a) zero l = rw (zero-sub (suc a))
drop_take (suc a) (suc n) [] = sym (take-nil (suc n - suc a))
drop_take (suc a) (suc n) (x ∷ l) = rw (suc-sub-suc n a) (drop_take a n l)

module _ {A : Type 0} (l : List A) where
  pub drop_end : (i : ℕ) → length l ≤ i → drop i l ≡ []
  drop_end i h = drop_of_length-le l h

  pub part_none : (a e : ℕ) → e ≤ a → part a e l ≡ []
  part_none a e h = let z : e - a ≡ 0 = omega arith in rw z

  pub part_past : (a e : ℕ) → length l ≤ a → part a e l ≡ []
  part_past a e h = rw (drop_end a h) (take-nil (e - a))

  pub part_tail : (a : ℕ) → part a (length l) l ≡ drop a l
  part_tail a = take_all (length l - a) (drop a l) (rw length-drop (omega arith))

  pub part_clamp : (a e : ℕ) → length l ≤ e → part a (length l) l ≡ part a e l
  part_clamp a e h = part_tail a ∙ sym (take_all (e - a) (drop a l) (rw length-drop (omega arith)))

  pub part_join : (a b e : ℕ) → a ≤ b → b ≤ e → part a b l ++ part b e l ≡ part a e l
  part_join a b e h g =
      let x : a + (b - a) ≡ b = omega arith in
      let y : e - a ≡ (b - a) + (e - b) = omega arith in
      rw (y, take-add (b - a) (e - b) (drop a l), drop-drop (b - a) a l, x)

  pub length_part : (a e : ℕ) → length (part a e l) ≡ min (e - a) (length l - a)
  length_part a e = simp (length-take, length-drop)

  pub part_part : (a e b f : ℕ) → b + e ≤ f → part a e (part b f l) ≡ part (b + a) (b + e) l
  part_part a e b f h =
      let x : e - a ≤ f - b - a = omega arith in
      let y : (b + e) - (b + a) ≡ e - a = omega arith in
      rw (drop_take a (f - b) (drop b l), drop-drop a b l, take-take (e - a) (f - b - a) (drop (b + a) l) x, y)
