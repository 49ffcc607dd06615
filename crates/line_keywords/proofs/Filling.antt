-- Rules for `search` at the loops of `mask` and `masks`.
--   tokens_start, tokens_next, tokens_end      the bits of the tokens from place k on are to come, the line starting at place s
--   Filling, filling_start, filling_next, filling_end    the lines below i have their masks
-- Assumes nothing.
use Prim.Native.Nat.{ℕ, ◌+◌, ◌-◌, ◌≤◌, ◌<◌}
use mathlib.Core.Path.{◌≡◌, sym, ap, ◌∙◌}
use mathlib.Core.List.{List}
use native.Mathlib.Decide.{ℕ_discrete, dec_lt}
use native.Mathlib.Omega.{arith}
use lib.Bits.{bit_or}
use lib.ListN.{length, get_or, drop, set, length-set}
use lib.Seq.{get_or-set_same, get_or-set_other}
use Rattle.definitions.specs.Lists.{fold}
use Rattle.definitions.specs.Model.{line, no_token}
use Rattle.definitions.specs.Columns.{token_list, listing}
use Rattle.model.specs.Places.{line_start, line_end}
use Rattle.model.proofs.Decode.{line_length, line_token, line_past}
use Rattle.text.proofs.Parts.{drop_step, drop_end}
use Rattle.line_keywords.specs.Masks.{key, with_key, mask, Masks}

-- The tokens of a line

unfoldable pub from : List ℕ → List ℕ → List ℕ → ℕ → ℕ → ℕ → ℕ → ℕ
from l t x i s k m = fold with_key m (drop (k - s) (line (listing l t x) i).tokens)

module _ (l t x : List ℕ) (i s k : ℕ) where
  pub tokens_start : k ≡ s → mask (line (listing l t x) i) ≡ from l t x i s k 0
  unfolding from mask
  tokens_start h = let z : k - s ≡ 0 = omega arith in rw z

  module _ (e : ℕ) (a : s ≡ line_start l i) (b : e ≡ line_end l t i) (r m : ℕ) (inv : r ≡ from l t x i s k m) (g : s ≤ k) where
    pub tokens_next : (v : ℕ) → k < e → v ≡ key (get_or (token_list t x) k no_token) → r ≡ from l t x i s (k + 1) (bit_or m v)
    unfolding from fold
    tokens_next v h q =
        let y : line_start l i + (k - s) ≡ k = omega arith in
        let z : (k - s) + 1 ≡ k + 1 - s = omega arith in
        let w : k - s < line_end l t i - line_start l i = omega arith in
        inv ∙ rw (drop_step no_token (line (listing l t x) i).tokens (k - s) (rw line_length w), line_token l t x i (k - s) w, y, z, q)

    pub tokens_end : e ≤ k → m ≡ r
    unfolding from fold
    tokens_end h = sym (inv ∙ rw (drop_end (line (listing l t x) i).tokens (k - s) (rw line_length (omega arith))))

pub ruleset masking = (tokens_start, tokens_next, tokens_end)

-- The lines

pub record Filling (l t x ms : List ℕ) (i : ℕ) : Type 0 where
  pub room : length l ≤ length ms
  pub done : (j : ℕ) → j < i → get_or ms j 0 ≡ mask (line (listing l t x) j)
  pub left : (j : ℕ) → i ≤ j → get_or ms j 0 ≡ 0

module _ (l t x ms : List ℕ) where
  pub filling_start : length l ≤ length ms → ((b : ℕ) → get_or ms b 0 ≡ 0) → Filling l t x ms 0
  filling_start h z = record { room = h; done = λ j g. absurd (omega arith); left = λ j g. z j }

  module _ (i : ℕ) (F : Filling l t x ms i) where
    pub filling_next : (v : ℕ) → i < length l → v ≡ mask (line (listing l t x) i) → Filling l t x (set ms i v) (i + 1)
    filling_next v h e = record {
      room = rw length-set F.room;
      done = λ j g. go j (ℕ_discrete j i) g;
      left = λ j g. get_or-set_other ms i j v 0 (λ q. omega arith) ∙ F.left j (omega arith);
    }
      where
        go : (j : ℕ) → Dec (j ≡ i) → j < i + 1 → get_or (set ms i v) j 0 ≡ mask (line (listing l t x) j)
        go j (yes q) g = rw (q, get_or-set_same ms i v 0 (omega (arith, F.room))) e
        go j (no q) g = rw (get_or-set_other ms i j v 0 q) (F.done j (omega arith))

    pub filling_end : length l ≤ i → Masks (listing l t x) ms
    unfolding mask fold
    filling_end h = record { at = λ j. go j (dec_lt j i) }
      where
        go : (j : ℕ) → Dec (j < i) → get_or ms j 0 ≡ mask (line (listing l t x) j)
        go j (yes g) = F.done j g
        go j (no g) = F.left j (omega arith) ∙ sym (ap mask (line_past l t x j (omega arith)))

pub ruleset filling = (filling_start, filling_next, filling_end)
