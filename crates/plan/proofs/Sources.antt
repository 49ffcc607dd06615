-- The listing that a pass was given.
--   columns_source     the columns' listing with its addresses is read from the columns
--   kept_word          the parts of the word of a line as it is
--   start_render       the plan of the lines as they are stands for the listing
-- Assumes nothing.
use Prim.Native.Nat.{ℕ, zero, suc, ◌+◌, ◌*◌, ◌/◌, ◌%◌, ◌≤◌, ◌<◌}
use mathlib.Core.Path.{◌≡◌, refl, sym, ap, ap₂, ◌∙◌}
use mathlib.Core.List.{List, [], ◌∷◌}
use native.Mathlib.Nat.{zero-add}
use native.Mathlib.Omega.{arith}
use lib.ListN.{length, get_or}
use lib.Seq.{ext_get_or}
use Rattle.definitions.specs.Model.{Line, pseudo_line, line, no_line}
use Rattle.definitions.specs.Columns.{listing, with_addresses}
use Rattle.model.proofs.Decode.{length_listing, line_at}
use Rattle.plan.specs.Plan.{header_at, indent_at, piece_at, initialiser_at, step_at, line_of, render}
use Rattle.plan.specs.Changes.{kept_words}
use Rattle.plan.specs.Source.{Source}
use Rattle.plan.proofs.Loops.{length_kept, kept_at}
use Rattle.plan.proofs.Rendered.{length_render, line_render, kept_line, kept_tokens}

addressed : (l a : List ℕ) (L : List Line) → length a ≡ length l → length L ≡ length l
    → (length (with_addresses l a L) ≡ length l)
    × ((i : ℕ) → ((line (with_addresses l a L) i).indent ≡ (line L i).indent) × ((line (with_addresses l a L) i).tokens ≡ (line L i).tokens))
unfolding with_addresses
addressed [] a [] p q = (refl, λ i. (refl, refl))
addressed [] a (m ∷ ms) p q = absurd (omega arith)
addressed (w ∷ ws) [] L p q = absurd (omega arith)
addressed (w ∷ ws) (b ∷ rest) [] p q = absurd (omega arith)
addressed (w ∷ ws) (b ∷ rest) (m ∷ ms) p q =
    let r = addressed ws rest ms (omega arith) (omega arith) in
    (ap suc r.0, each r.1)
  where
    each : ((i : ℕ) → ((line (with_addresses ws rest ms) i).indent ≡ (line ms i).indent) × ((line (with_addresses ws rest ms) i).tokens ≡ (line ms i).tokens))
        → (i : ℕ) → ((line (with_addresses (w ∷ ws) (b ∷ rest) (m ∷ ms)) i).indent ≡ (line (m ∷ ms) i).indent)
        × ((line (with_addresses (w ∷ ws) (b ∷ rest) (m ∷ ms)) i).tokens ≡ (line (m ∷ ms) i).tokens)
    each h zero = (refl, refl)
    each h (suc i) = h i

pub columns_source : (l a t x : List ℕ) → length a ≡ length l → Source (with_addresses l a (listing l t x)) l t x
columns_source l a t x e =
    let r = addressed l a (listing l t x) e (length_listing l t x) in
    record {
      size = r.0;
      indents = λ i. (r.1 i).0 ∙ ap (λ m. m.indent) (line_at l t x i);
      tokens = λ i. (r.1 i).1;
    }

pub kept_word : (a k : ℕ) → a < 256 → k < 1024
    → (indent_at (a + 8192 * k) ≡ a) × (header_at (a + 8192 * k) ≡ 0) × (piece_at (a + 8192 * k) % 4 ≡ 0) × (piece_at (a + 8192 * k) / 4 ≡ k)
    × (initialiser_at (a + 8192 * k) ≡ 0) × (step_at (a + 8192 * k) ≡ 0)
kept_word a k ha hk =
    let d : (a + 8192 * k) / 256 ≡ 32 * k = omega arith in
    let h : 32 * k % 8 ≡ 0 = omega arith in
    let e : 32 * k / 8 ≡ 4 * k = omega arith in
    let f : 4 * k % 4096 ≡ 4 * k = omega arith in
    let g : 4 * k % 4 ≡ 0 = omega arith in
    let j : 4 * k / 4 ≡ k = omega arith in
    let y : 4 * k / 4096 ≡ 0 = omega arith in
    (omega arith, rw (d, h), rw (d, e, f, g), rw (d, e, f, j), rw (d, e, y), rw (d, e, y))

module _ (S : List Line) (l t x : List ℕ) (R : Source S l t x) (few : length l ≤ 1024) where
  start_line : (i : ℕ) → i < length l → line_of S (get_or (kept_words 0 l) i 0) ≡ line S i
  start_line i h =
      let w = get_or l i 0 % 256 + 8192 * i in
      let p = kept_word (get_or l i 0 % 256) i (omega arith) (omega arith) in
      let same : get_or (kept_words 0 l) i 0 ≡ w = kept_at 0 i l h ∙ rw zero-add in
      let k = kept_line S w p.1 in
      let address : (line_of S w).address ≡ (line S i).address = ap (λ m. m.address) k ∙ rw p.3 in
      let indent : (line_of S w).indent ≡ (line S i).indent = ap (λ m. m.indent) k ∙ (p.0 ∙ sym (R.indents i)) in
      let tokens : (line_of S w).tokens ≡ (line S i).tokens = kept_tokens S w p.1 p.2 ∙ rw p.3 in
      ap (line_of S) same ∙ (ap₂ (λ a ts. pseudo_line a (line_of S w).indent ts) address tokens ∙ ap (λ d. pseudo_line (line S i).address d (line S i).tokens) indent)

  pub start_render : render S (kept_words 0 l) ≡ S
  start_render =
      let n = length_render S (kept_words 0 l) ∙ length_kept 0 l in
      ext_get_or no_line (render S (kept_words 0 l)) S (n ∙ sym R.size)
      (λ i h. line_render S (kept_words 0 l) i (omega (arith, length_render S (kept_words 0 l))) ∙ start_line i (omega arith))
