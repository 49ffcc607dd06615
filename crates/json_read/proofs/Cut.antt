-- Slices cut to a limit.
--   cut_read                what is read into cut slices is read into the slices
-- Assumes nothing.
use mathlib.Core.Path.{◌≡◌, ◌∙◌}
use mathlib.Core.List.{List, ◌++◌}
use Prim.Native.Nat.{ℕ, min, ◌≤◌}
use native.Mathlib.Omega.{arith}
use lib.ListN.{length, take, drop, length-take}
use lib.Seq.{take-append-le}
use Rattle.definitions.specs.Model.{Line}
use Rattle.json_definitions.specs.Parser.{Got}
use Rattle.std.specs.Prelude.{Some, None, Option}
use Rattle.std.specs.Borrow.{Bor}
use Rattle.json_listing.specs.declared.Counts.{Counts}
use Rattle.json_listing.specs.InColumns.{listing_read}

module _ (o : Option (Got (List Line))) (l₁ l₂ l₃ l₄ : List ℕ) (r₁ r₂ r₃ r₄ m₁ m₂ m₃ m₄ : ℕ) (e₁ : r₁ ≡ min (length l₁) m₁) (e₂ : r₂ ≡ min (length l₂) m₂) (e₃ : r₃ ≡ min (length l₃) m₃) (e₄ : r₄ ≡ min (length l₄) m₄)
    (p₁ p₂ p₃ p₄ : List ℕ) (q₁ : length p₁ ≡ length (take r₁ l₁)) (q₂ : length p₂ ≡ length (take r₂ l₂)) (q₃ : length p₃ ≡ length (take r₃ l₃)) (q₄ : length p₄ ≡ length (take r₄ l₄)) where
  size : (l : List ℕ) (r m : ℕ) → r ≡ min (length l) m → length (take r l) ≡ min (length l) m
  size l r m e = rw length-take (omega arith)

  pub cut_read : (t : Option (Counts × Bor (List ℕ))) → listing_read o (length (take r₁ l₁)) (length (take r₂ l₂)) (length (take r₃ l₃)) (length (take r₄ l₄)) p₁ p₂ p₃ p₄ t
      → listing_read o (min (length l₁) m₁) (min (length l₂) m₂) (min (length l₃) m₃) (min (length l₄) m₄) (p₁ ++ drop r₁ l₁) (p₂ ++ drop r₂ l₂) (p₃ ++ drop r₃ l₃) (p₄ ++ drop r₄ l₄) t
  unfolding listing_read
  cut_read (Some (m, rest)) w =
      let z₁ = size l₁ r₁ m₁ e₁ in
      let z₂ = size l₂ r₂ m₂ e₂ in
      let z₃ = size l₃ r₃ m₃ e₃ in
      let z₄ = size l₄ r₄ m₄ e₄ in
      let h₁ : m.lines ≤ length p₁ = let y = w.room.0 in omega arith in
      let h₂ : m.lines ≤ length p₂ = let y = w.room.1.0 in omega arith in
      let h₃ : m.tokens ≤ length p₃ = let y = w.room.1.1.0 in omega arith in
      let h₄ : m.text ≤ length p₄ = let y = w.room.1.1.1 in omega arith in
      record {
        L = w.L;
        is = w.is;
        count = w.count;
        tokens = w.tokens;
        bytes = w.bytes;
        lines = take-append-le m.lines p₁ (drop r₁ l₁) h₁ ∙ w.lines;
        addresses = take-append-le m.lines p₂ (drop r₂ l₂) h₂ ∙ w.addresses;
        words = take-append-le m.tokens p₃ (drop r₃ l₃) h₃ ∙ w.words;
        texts = take-append-le m.text p₄ (drop r₄ l₄) h₄ ∙ w.texts;
        room = (omega arith, (omega arith, (omega arith, omega arith)));
      }
  cut_read None w =
      let z₁ = size l₁ r₁ m₁ e₁ in
      let z₂ = size l₂ r₂ m₂ e₂ in
      let z₃ = size l₃ r₃ m₃ e₃ in
      let z₄ = size l₄ r₄ m₄ e₄ in
      record { never = λ g f a b c d. w.never g f (omega arith) (omega arith) (omega arith) (omega arith) }
