-- The layout: rows that are untouched hold what they held.
--   small, room                   the words of a layout are few, and the words of question 5 have room for them
--   room_by                       what a layout knows of itself, and words that fit
--   room_same                     a list of the same length has room too
--   outs_at, outs_past            an outgoing bit, by its place
--   outs_word, same_outs, same_preds    equal words hold equal outgoing bits, equal outgoing rows, and equal edges
--   kept-*                        the same for words that are `Kept`
-- Assumes nothing.
use Prim.Native.Nat.{ℕ, ◌+◌, ◌*◌, ◌/◌, ◌<◌, ◌≤◌}
use mathlib.Core.Path.{◌≡◌, refl, sym, ◌∙◌, fun_ext}
use mathlib.Core.Logic.{◌⊎◌, inl, inr}
use mathlib.Core.Bool.{false}
use mathlib.Core.List.{List}
use native.Mathlib.Omega.{arith}
use native.Mathlib.Nat.{mul-le-mul_left, mul-add}
use lib.ListN.{length, get_or}
use borrow.Author.Tests.{lt-ltb, le-ltb}
use Rattle.definitions.specs.Questions.{space_words}
use Rattle.theory.proofs.Bools.{lt_or_ge}
use Rattle.bits.specs.Rows.{bit}
use Rattle.bits.specs.Edges.{row_words, Agree, preds_of}
use Rattle.bits.proofs.RowLaws.{same_bit}
use Rattle.bits.proofs.EdgeLaws.{row_in, kept_edges, kept_agree, preds_of_kept}
use Rattle.visit.specs.Layout.{base, Fits, Room, outs, Kept}
use Rattle.visit.specs.declared.layout.Layout.{Layout}

-- the words that a layout takes are few
pub small : (n w : ℕ) → 0 < n → n ≤ 1024 → w ≤ (n + 63) / 64
    → (n * row_words n + n * row_words n + row_words n + row_words n + n * w + w ≤ 65536) × (n * row_words n + n * row_words n + row_words n + row_words n + n * w + w ≤ space_words n)
small n w p h s =
    let r = (n + 63) / 64 in
    let a : n * r ≤ n * 16 = mul-le-mul_left n (omega arith) in
    let b : n * w ≤ n * r = mul-le-mul_left n s in
    let c : n * (r + 1) ≡ n * r + n * 1 = mul-add n r 1 in
    (omega arith, omega arith)

-- the layout for c definitions
pub room : (n c : ℕ) (m : Layout) (l : List ℕ) → (m.n ≡ n) × (m.r ≡ row_words n) × (m.w ≡ c / 64 + 1) → n ≤ 1024 → c < n → space_words n ≤ length l → Fits m.n m.r m.w l
room n c m l e h q s = rw (e.0, e.1, e.2) (omega (arith, (small n (c / 64 + 1) (omega arith) h (omega arith)).1))

-- what a layout knows of itself, and that the words have room
pub room_by : (m : Layout) (l : List ℕ) → Fits m.n m.r m.w l → Room m.n m.r m.w l
room_by m l h = record { lines = m.lines; some = m.some; wide = m.wide; room = h; small = m.small }

pub room_same : (n r w : ℕ) (l l' : List ℕ) → length l' ≡ length l → Room n r w l → Room n r w l'
room_same n r w l l' e R = record { lines = R.lines; some = R.some; wide = R.wide; room = rw e R.room; small = R.small }

pub outs_at : (n r w : ℕ) (l : List ℕ) (b j : ℕ) → j < n → outs n r w l b j ≡ bit l ((base n r + j * w) * 64 + b)
unfolding outs
outs_at n r w l b j h = rw (lt-ltb j n h)

pub outs_past : (n r w : ℕ) (l : List ℕ) (b j : ℕ) → n ≤ j → outs n r w l b j ≡ false
unfolding outs
outs_past n r w l b j h = rw (le-ltb j n h)

pub outs_word : (n r w : ℕ) (l₀ l : List ℕ) (b : ℕ) → ((j : ℕ) → j < n → get_or l (base n r + j * w + b / 64) 0 ≡ get_or l₀ (base n r + j * w + b / 64) 0)
    → outs n r w l b ≡ outs n r w l₀ b
outs_word n r w l₀ l b kept = fun_ext (λ j. go j (lt_or_ge j n))
  where
    go : (j : ℕ) → (j < n) ⊎ (n ≤ j) → outs n r w l b j ≡ outs n r w l₀ b j
    go j (inl q) =
        let e : ((base n r + j * w) * 64 + b) / 64 ≡ base n r + j * w + b / 64 = omega arith in
        outs_at n r w l b j q ∙ same_bit l l₀ ((base n r + j * w) * 64 + b) (rw e (kept j q)) ∙ sym (outs_at n r w l₀ b j q)
    go j (inr q) = outs_past n r w l b j q ∙ sym (outs_past n r w l₀ b j q)

pub same_outs : (n r w : ℕ) (l₀ l : List ℕ) → ((v : ℕ) → base n r ≤ v → v < base n r + n * w → get_or l v 0 ≡ get_or l₀ v 0)
    → (b : ℕ) → b < w * 64 → outs n r w l b ≡ outs n r w l₀ b
same_outs n r w l₀ l kept b h = outs_word n r w l₀ l b (λ j q. kept (base n r + j * w + b / 64) (omega arith) (omega (arith, row_in j n w q)))

pub same_preds : (n r : ℕ) (l₀ l : List ℕ) → n + 64 ≤ r * 64 → ((v : ℕ) → v < n * r + n * r → get_or l v 0 ≡ get_or l₀ v 0) → preds_of n r l ≡ preds_of n r l₀
same_preds n r l₀ l wide kept = preds_of_kept n r l₀ l (kept_edges n r l₀ l wide kept)

pub kept_none : (n r w : ℕ) (l : List ℕ) → Kept n r w l l
unfolding Kept
kept_none n r w l v h = refl

pub kept_then : (n r w : ℕ) (l₀ l₁ l : List ℕ) → Kept n r w l₀ l₁ → Kept n r w l₁ l → Kept n r w l₀ l
unfolding Kept
kept_then n r w l₀ l₁ l A B v h = B v h ∙ A v h

pub kept_preds : (n r w : ℕ) (l₀ l : List ℕ) → n + 64 ≤ r * 64 → Kept n r w l₀ l → preds_of n r l ≡ preds_of n r l₀
unfolding Kept
kept_preds n r w l₀ l wide K = same_preds n r l₀ l wide (λ v h. K v (λ x y. omega arith))

pub kept_both : (n r w : ℕ) (l₀ l : List ℕ) → n + 64 ≤ r * 64 → Kept n r w l₀ l → Agree n r l₀ → Agree n r l
unfolding Kept
kept_both n r w l₀ l wide K A = kept_agree n r l₀ l wide (λ v h. K v (λ x y. omega arith)) A
