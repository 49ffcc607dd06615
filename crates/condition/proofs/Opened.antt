-- Where a condition opens and closes, as rules for `search`.
--   ends_three, ends_two, starts_two    a text that ends or starts with a text has its bytes
--   closes_within, within_cut           the bytes that are cut off stand there
-- Assumes nothing.
use mathlib.Core.Path.{◌≡◌, sym, ◌∙◌}
use mathlib.Core.Bool.{Bool, true}
use mathlib.Core.List.{List}
use Prim.Native.Nat.{ℕ, ◌+◌, ◌-◌, ◌≤◌, ◌<◌}
use native.Mathlib.Decide.{dec_lt}
use native.Mathlib.Omega.{arith}
use borrow.Author.Tests.{leb-true}
use lib.Dec.{leb}
use lib.ListN.{length, drop}
use Rattle.definitions.specs.Lists.{◌≟◌, starts_with, ends_with, ascii}
use Rattle.definitions.specs.Model.{Line, token}
use Rattle.text.proofs.Texts.{starts_short}
use Rattle.model.proofs.Ands.{both}
use Rattle.condition.specs.Conditions.{Bounds}

ends_long : (p s : List ℕ) → ends_with p s ≡ true → length p ≤ length s
ends_long p s e = leb-true (length p) (length s) (both (leb (length p) (length s)) (drop (length s - length p) s ≟ p) e).0

module _ (s : List ℕ) (b : Bool) (f : b ≡ true) where
  pub ends_three : b ≡ ends_with (ascii ") {") s → 3 ≤ length s
  ends_three e = ends_long (ascii ") {") s (sym e ∙ f)

  pub ends_two : b ≡ ends_with (ascii ");") s → 2 ≤ length s
  ends_two e = ends_long (ascii ");") s (sym e ∙ f)

starts_two : (s : List ℕ) (b : Bool) → b ≡ starts_with (ascii " (") s → b ≡ true → 2 ≤ length s
starts_two s b e f = go (dec_lt (length s) 2)
  where
    go : Dec (length s < 2) → 2 ≤ length s
    go (yes h) = let z : ◌≡◌ {A = ℕ} 0 1 = (let y : true ≡ starts_with (ascii " (") s = sym f ∙ e in let w = starts_short (ascii " (") s h in cc) in absurd (omega arith)
    go (no h) = omega arith

pub closes_within : (l : Line) (z n m : ℕ) (s : List ℕ) → z ≤ length s → s ≡ (token l m).text → m ≡ n - 1 → z ≤ length (token l (n - 1)).text
closes_within l z n m s h q d = rw (← d, ← q) h

pub within_cut : (l : Line) (k n m z : ℕ) (b : Bool) → n ≡ length l.tokens → m ≡ n - 1 → k < m
    → b ≡ starts_with (ascii " (") (token l (k + 1)).text → b ≡ true → z ≤ length (token l (n - 1)).text → Bounds l k z
within_cut l k n m z b c d h p f a =
    record { opened = omega arith; front = starts_two (token l (k + 1)).text b p f; end = rw (← c) a }

pub ruleset opened = (ends_three, ends_two, closes_within, within_cut)
