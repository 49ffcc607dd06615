-- What stands at a token after the lines are marked.
--   marked_at                       all lines marked
-- Assumes nothing.
use Prim.Native.Nat.{ℕ, zero, suc, ◌+◌, ◌<◌, ◌≤◌}
use mathlib.Core.Path.{◌≡◌, refl, ap, ◌∙◌}
use mathlib.Core.Logic.{◌⊎◌, inl, inr}
use mathlib.Core.Bool.{Bool, true, false, cond, ◌&&◌}
use mathlib.Core.List.{List}
use native.Mathlib.Omega.{arith}
use lib.Dec.{eqb}
use borrow.Author.Tests.{eq-eqb, ne_eqb}
use lib.ListN.{length, get_or, set, length-set}
use lib.Seq.{get_or-set_same, get_or-set_other}
use Rattle.definitions.specs.Lists.{fold, range, up_to}
use Rattle.definitions.specs.Model.{Line, line}
use Rattle.definitions.specs.Columns.{listing}
use Rattle.definitions.specs.Questions.{covers}
use Rattle.theory.proofs.Bools.{lt_or_ge}
use Rattle.theory.proofs.ListLaws.{fold_up_to}
use Rattle.model.specs.Places.{line_start}
use Rattle.walks.specs.Lines.{line_marked, lines_marked}
use Rattle.chains.proofs.Places.{start_within, line_next, other_line}

module _ (l t x : List ℕ) (ok : covers 512 0 l (length t) ≡ true) where
  abbrev L : List Line
  L = listing l t x

  abbrev width : ℕ → ℕ
  width i = length (line L i).tokens

  -- Marks. A line that is marked has a token.

  module _ (k : ℕ) (ds ms : List ℕ) (same : length ms ≡ length t) (full : (i : ℕ) → i < length l → eqb (get_or ds i 0) (k + 1) ≡ true → 0 < width i) where
    abbrev marked : ℕ → List ℕ
    marked m = lines_marked l k ds ms (up_to m)

    marked_next : (m : ℕ) → marked (suc m) ≡ line_marked l k ds (marked m) m
    unfolding lines_marked
    marked_next m = fold_up_to (line_marked l k ds) ms m

    pub marked_length : (m : ℕ) → length (marked m) ≡ length t
    unfolding lines_marked line_marked fold range
    marked_length zero = same
    marked_length (suc m) = ap length (marked_next m) ∙ go (eqb (get_or ds m 0) (k + 1)) ∙ marked_length m
      where
        go : (b : Bool) → length (cond b (set (marked m) (line_start l m) 1) (marked m)) ≡ length (marked m)
        go true = length-set (marked m) (line_start l m) 1
        go false = refl

    module _ (i j : ℕ) (h : i < length l) (q : j < width i) where
      abbrev place : ℕ
      place = line_start l i + j

      marked_other : (m : ℕ) → m < length l → (i ≡ m → ⊥) → get_or (marked (suc m)) place 0 ≡ get_or (marked m) place 0
      unfolding line_marked
      marked_other m g n = ap (λ (o : List ℕ). get_or o place 0) (marked_next m) ∙ go (eqb (get_or ds m 0) (k + 1)) refl
        where
          go : (b : Bool) → eqb (get_or ds m 0) (k + 1) ≡ b → get_or (cond b (set (marked m) (line_start l m) 1) (marked m)) place 0 ≡ get_or (marked m) place 0
          go true e = get_or-set_other (marked m) (line_start l m) place 1 0 (λ z. elim (other_line l t x ok i j m h g q n) [
            | inl c ↦ omega arith
            | inr c ↦ omega (arith, full m g e)
          ])
          go false e = refl

      marked_before : (m : ℕ) → m ≤ i → get_or (marked m) place 0 ≡ get_or ms place 0
      unfolding lines_marked fold range
      marked_before zero g = refl
      marked_before (suc m) g = marked_other m (omega arith) (λ z. omega arith) ∙ marked_before m (omega arith)

      marked_here : get_or (line_marked l k ds (marked i) i) place 0 ≡ cond (eqb (get_or ds i 0) (k + 1) && eqb j 0) 1 (get_or (marked i) place 0)
      unfolding line_marked
      marked_here = go (eqb (get_or ds i 0) (k + 1)) (lt_or_ge 0 j)
        where
          go : (b : Bool) → (0 < j) ⊎ (j ≤ 0) → get_or (cond b (set (marked i) (line_start l i) 1) (marked i)) place 0 ≡ cond (b && eqb j 0) 1 (get_or (marked i) place 0)
          go false c = refl
          go true (inl c) = rw (ne_eqb j 0 (λ z. omega arith)) (get_or-set_other (marked i) (line_start l i) place 1 0 (λ z. omega arith))
          go true (inr c) = rw (eq-eqb j 0 (omega arith))
              (let z : place ≡ line_start l i = omega arith in
              ap (λ (s : ℕ). get_or (set (marked i) (line_start l i) 1) s 0) z
              ∙ get_or-set_same (marked i) (line_start l i) 1 0 (omega (arith, marked_length i, line_next l t x ok i h, start_within l t x ok (suc i) h)))

      marked_behind : (m : ℕ) → i < m → m ≤ length l → get_or (marked m) place 0 ≡ cond (eqb (get_or ds i 0) (k + 1) && eqb j 0) 1 (get_or ms place 0)
      marked_behind zero g b = absurd (omega arith)
      marked_behind (suc m) g b = elim (lt_or_ge i m) [
        | inl c ↦ marked_other m b (λ z. omega arith) ∙ marked_behind m c (omega arith)
        | inr c ↦ (let z : m ≡ i = omega arith in
            rw z (ap (λ (o : List ℕ). get_or o place 0) (marked_next i) ∙ marked_here
            ∙ ap (cond (eqb (get_or ds i 0) (k + 1) && eqb j 0) 1) (marked_before i (omega arith))))
      ]

      pub marked_at : get_or (marked (length l)) place 0 ≡ cond (eqb (get_or ds i 0) (k + 1) && eqb j 0) 1 (get_or ms place 0)
      marked_at = marked_behind (length l) h (omega arith)
