-- Rules for `search` at the needs of a loop that stores at place i of a lent slice, one place a turn: o is the slice now, d the slice at entry.
--   filled f xs d i      f of the first i elements of xs, and d from there on
--   fill_next, fill_end  a store of f of the element at i; after the last one
--   same_next            a store of a at place i, behind as many of them
-- Assumes nothing.
use mathlib.Core.Path.{◌≡◌, sym}
use mathlib.Core.List.{List, [], ◌∷◌, ◌++◌, map, append-nil, append_assoc}
use Prim.Native.Nat.{ℕ, suc, ◌+◌, ◌≤◌, ◌<◌}
use native.Mathlib.Numerals.{add-one}
use native.Mathlib.Omega.{arith}
use lib.ListN.{length, get_or, set, take, drop, replicate, length-map, length-replicate, get_or-map}
use Rattle.std.proofs.lemmas.List.{replicate_more}
use lib.Seq.{set_at, take-suc, append_snoc, take_all, length-take-le}
use Rattle.text.proofs.Parts.{drop_step, drop_end}

unfoldable pub filled : {A : Type 0} → (A → ℕ) → List A → List ℕ → ℕ → List ℕ
filled f xs d i = take i (map f xs) ++ drop i d

module _ {A : Type 0} (f : A → ℕ) (xs : List A) (d o : List ℕ) (i n : ℕ) (e : n ≡ length xs) (inv : o ≡ filled f xs d i) (s : length d ≡ n) where
  pub fill_next : (z : A) (v : ℕ) → i < n → v ≡ f (get_or xs i z) → set o i v ≡ filled f xs d (i + 1)
  unfolding filled
  fill_next z v h q =
      let b : i < length d = omega arith in
      let hm : i < length (map f xs) = rw length-map (omega arith) in
      let hl : length (take i (map f xs)) ≡ i = length-take-le i (map f xs) (omega arith) in
      rw (inv, drop_step 0 d i, set_at (take i (map f xs)) (get_or d i 0) (drop (i + 1) d) v i hl, q, ← get_or-map f xs i z)
      (rw (add-one, take-suc (map f xs) i (f z) hm) (sym (append_snoc (take i (map f xs)) (get_or (map f xs) i (f z)) (drop (suc i) d))))

  pub fill_end : n ≤ i → o ≡ map f xs
  unfolding filled
  fill_end h =
      let hm : length (map f xs) ≤ i = rw length-map (omega arith) in
      rw (inv, take_all i (map f xs) hm, drop_end d i (omega arith), append-nil)

pub same_next : {A : Type 0} (a : A) (i : ℕ) (d o : List A) → o ≡ replicate i a ++ drop i d → i < length d → set o i a ≡ replicate (i + 1) a ++ drop (i + 1) d
same_next a i d o inv h =
    rw (inv, drop_step a d i h, set_at (replicate i a) (get_or d i a) (drop (i + 1) d) a i (length-replicate i a), ← replicate_more i a)
    (sym (append_assoc (replicate i a) (a ∷ []) (drop (i + 1) d)))

pub ruleset fills = (fill_next, fill_end)
