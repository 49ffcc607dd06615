-- Texts as numbers.
--   pack_some                       the number of a text is not 0
--   pack_same                       two texts of one number are the same
--   pack_next, pack_end             the loop of `pack`
--   pack_mul_fits, pack_add_fits    its numbers, of a text of at most 7 bytes
-- Assumes nothing.
use Prim.Native.Nat.{ℕ, zero, suc, ◌+◌, ◌*◌, ◌<◌, ◌≤◌}
use mathlib.Core.Path.{◌≡◌, refl, sym, ap, ◌∙◌}
use mathlib.Core.List.{List, [], ◌∷◌}
use native.Mathlib.Omega.{arith}
use mir.Syntax.{w64}
use mir.Val.{Fits}
use lib.ListN.{length, get_or, drop}
use Rattle.definitions.specs.Lists.{fold}
use Rattle.text.proofs.Parts.{drop_step, drop_end}
use Rattle.memo.specs.Texts.{digit, pack, Bytes}

byte_low : (x : ℕ) (s : List ℕ) → Bytes (x ∷ s) → x < 256
byte_low x s B = omega (arith, B 0)

-- Bytes more make no number smaller.

grows : (a : ℕ) (s : List ℕ) → a ≤ fold digit a s
unfolding fold
grows a [] = omega arith
grows a (x ∷ s) = omega (arith, grows (a * 256 + x) s)

pub pack_some : (s : List ℕ) → 0 < pack s
unfolding pack
pack_some s = grows 1 s

-- One number is of one text: after as many bytes of each, either number is less than twice the other, so that both texts end there or none.

digit_same : (a b x y : ℕ) → x < 256 → y < 256 → digit a x ≡ digit b y → (a ≡ b) × (x ≡ y)
digit_same a b x y h g e = (omega arith, omega arith)

fold_same : (s t : List ℕ) (a b : ℕ) → Bytes s → Bytes t → a < 2 * b → b < 2 * a → fold digit a s ≡ fold digit b t → (a ≡ b) × (s ≡ t)
unfolding fold
fold_same [] [] a b B C h g e = (e, refl)
fold_same [] (y ∷ t) a b B C h g e = absurd (omega (arith, e, grows (b * 256 + y) t))
fold_same (x ∷ s) [] a b B C h g e = absurd (omega (arith, e, grows (a * 256 + x) s))
fold_same (x ∷ s) (y ∷ t) a b B C h g e =
    let i = byte_low x s B in
    let j = byte_low y t C in
    let r = fold_same s t (digit a x) (digit b y) (λ k. B (suc k)) (λ k. C (suc k)) (omega arith) (omega arith) e in
    let d = digit_same a b x y i j r.0 in
    (d.0, ap (λ (z : ℕ). z ∷ s) d.1 ∙ ap (λ (z : List ℕ). y ∷ z) r.1)

pub pack_same : (s t : List ℕ) → Bytes s → Bytes t → pack s ≡ pack t → s ≡ t
unfolding pack
pack_same s t B C e = (fold_same s t 1 1 B C (omega arith) (omega arith) e).1

-- The number of at most 7 bytes is below 2 * 256 ^ 7.

abbrev scaled : ℕ → ℕ → ℕ
scaled zero m = m
scaled (suc n) m = scaled n (m * 256)

fold_low : (n m a : ℕ) (s : List ℕ) → Bytes s → length s ≤ n → a < m → fold digit a s < scaled n m
unfolding fold
fold_low zero m a [] B l h = h
fold_low zero m a (x ∷ s) B l h = absurd (omega arith)
fold_low (suc n) m a [] B l h = fold_low n (m * 256) a [] B (omega arith) (omega arith)
fold_low (suc n) m a (x ∷ s) B l h =
    let i = byte_low x s B in
    fold_low n (m * 256) (digit a x) s (λ k. B (suc k)) (omega arith) (omega arith)

pack_low : (s : List ℕ) → Bytes s → length s ≤ 7 → pack s < 144115188075855872
unfolding pack
pack_low s B l = fold_low 7 2 1 s B l (omega arith)

-- Byte by byte

module _ (s : List ℕ) (p k : ℕ) (inv : pack s ≡ fold digit p (drop k s)) where
  pub pack_next : (v : ℕ) → v ≡ get_or s k 0 → k < length s → pack s ≡ fold digit (p * 256 + v) (drop (k + 1) s)
  unfolding fold
  pack_next v e h = inv ∙ rw (drop_step 0 s k, e)

  pub pack_end : length s ≤ k → p ≡ pack s
  unfolding fold
  pack_end h = sym (inv ∙ rw (drop_end s k))

  module _ (B : Bytes s) (l : length s ≤ 7) (h : k < length s) where
    room : p * 256 < 144115188075855872
    room = omega (arith, pack_next _ refl h, grows (p * 256 + get_or s k 0) (drop (k + 1) s), pack_low s B l)

    pub pack_mul_fits : Fits w64 (p * 256)
    pack_mul_fits = record { fits = omega (arith, room) }

    pub pack_add_fits : (v : ℕ) → v < 256 → Fits w64 (p * 256 + v)
    pack_add_fits v g = record { fits = omega (arith, room) }

pub ruleset packs = (pack_next, pack_end, pack_mul_fits, pack_add_fits)
