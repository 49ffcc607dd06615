-- Rules for the needs of the functions that measure labels.
--   cells_web, cells_plain, web_most, plain_most     a token
--   Summing, summing_start, -next, -end, -most       a loop over the tokens of a line
--   line_is, indent_most                             a line
--   Measuring, measuring_start, -next, -end          a loop over the lines
-- Assumes nothing.
use Prim.Native.Nat.{ℕ, suc, ◌+◌, ◌*◌, ◌-◌, ◌/◌, ◌≤◌, ◌<◌, max}
use mathlib.Core.Path.{◌≡◌, ap}
use mathlib.Core.Bool.{Bool, true, false}
use mathlib.Core.List.{List, map}
use native.Mathlib.Numerals.{add-one}
use native.Mathlib.Omega.{arith}
use lib.ListN.{length, get_or}
use Rattle.definitions.specs.Lists.{range}
use Rattle.definitions.specs.Model.{no_token, line}
use Rattle.definitions.specs.Columns.{token_list, listing}
use Rattle.model.specs.Places.{token_start, line_start, line_end}
use Rattle.model.proofs.Decode.{token_at, line_at}
use Rattle.text.proofs.Parts.{length_part}
use Rattle.dot.specs.Dot.{has_web, sum, greatest, token_cells, cells}
use Rattle.dot.specs.Held.{line_cells, widest}

-- Tokens

token_most : (t x : List ℕ) (k : ℕ) → length (get_or (token_list t x) k no_token).text ≤ length x
token_most t x k = rw (token_at t x k) (omega (arith, length_part x (token_start t k) (get_or t k 0 / 256)))

module _ (t x N : List ℕ) (k : ℕ) (y : Bool) (web : y ≡ has_web N k) (s : List ℕ) (text : s ≡ (get_or (token_list t x) k no_token).text) where
  pub cells_web : y ≡ true → length s + 2 ≡ token_cells (token_list t x) N k
  unfolding token_cells
  cells_web h = rw (← web, h, ← text)

  pub cells_plain : y ≡ false → length s ≡ token_cells (token_list t x) N k
  unfolding token_cells
  cells_plain h = rw (← web, h, ← text) (omega arith)

module _ (t x : List ℕ) (k : ℕ) (s : List ℕ) (text : s ≡ (get_or (token_list t x) k no_token).text) (short : length x ≤ 262144) where
  pub web_most : length s + 2 ≤ 262146
  web_most = omega (arith, token_most t x k, ap length text)

  pub plain_most : length s ≤ 262146
  plain_most = omega (arith, token_most t x k, ap length text)

-- The tokens of a line

pub record Summing (f : ℕ → ℕ) (a e s k : ℕ) : Type 0 where
  pub rest : s + sum (map f (range k (e - k))) ≡ sum (map f (range a (e - a)))
  pub most : s + 262146 * (e - k) ≤ 262146 * e

module _ (f : ℕ → ℕ) (a e : ℕ) where
  pub summing_start : (k : ℕ) → k ≡ a → Summing f a e 0 k
  summing_start k q = record { rest = rw q (omega arith); most = omega arith }

  module _ (s k : ℕ) (m : Summing f a e s k) where
    pub summing_next : k < e → (n : ℕ) → n ≡ f k → n ≤ 262146 → Summing f a e (s + n) (k + 1)
    unfolding range sum
    summing_next h n q b =
        let most = m.most in
        let z : e - k ≡ suc (e - suc k) = omega arith in
        let r : s + (f k + sum (map f (range (suc k) (e - suc k)))) ≡ sum (map f (range a (e - a))) = rw z at m.rest in
        record { rest = rw (q, add-one) (omega arith); most = omega arith }

    summing_last : e ≤ k → s ≡ sum (map f (range a (e - a)))
    unfolding range sum
    summing_last h =
        let z : e - k ≡ 0 = omega arith in
        let r : s + 0 ≡ sum (map f (range a (e - a))) = rw z at m.rest in
        omega arith

module _ (l t x N : List ℕ) (i e s k : ℕ) (m : Summing (token_cells (token_list t x) N) (line_start l i) e s k) (end : e ≡ line_end l t i) where
  pub summing_end : e ≤ k → s ≡ sum (map (token_cells (token_list t x) N) (range (line_start l i) (line_end l t i - line_start l i)))
  summing_end h = rw (← end) (summing_last (token_cells (token_list t x) N) (line_start l i) e s k m h)

  pub summing_most : length t ≤ 16384 → s ≤ 4295000064
  summing_most h = let most = m.most in omega arith

-- Lines

pub indent_most : (l t x : List ℕ) (i : ℕ) → (line (listing l t x) i).indent ≤ 255
indent_most l t x i = rw (line_at l t x i) (omega arith)

pub line_is : (l t x N : List ℕ) (i d s : ℕ) → d ≡ (line (listing l t x) i).indent
    → s ≡ sum (map (token_cells (token_list t x) N) (range (line_start l i) (line_end l t i - line_start l i))) → 4 * d + s ≡ line_cells l t x N i
unfolding line_cells cells
line_is l t x N i d s p q = rw (p, q)

pub record Measuring (f : ℕ → ℕ) (n m i : ℕ) : Type 0 where
  pub rest : max m (greatest (map f (range i (n - i)))) ≡ greatest (map f (range 0 n))
  pub most : m ≤ 4295001084

module _ (f : ℕ → ℕ) (n : ℕ) where
  pub measuring_start : Measuring f n 0 0
  measuring_start = let z : n - 0 ≡ n = omega arith in record { rest = rw z (omega arith); most = omega arith }

  module _ (m i : ℕ) (g : Measuring f n m i) where
    pub measuring_next : i < n → (b m' : ℕ) → b ≡ f i → b ≤ 4295001084 → m' ≡ max m b → Measuring f n m' (i + 1)
    unfolding range greatest
    measuring_next h b m' q u p =
        let most = g.most in
        let z : n - i ≡ suc (n - suc i) = omega arith in
        let r : max m (max (f i) (greatest (map f (range (suc i) (n - suc i))))) ≡ greatest (map f (range 0 n)) = rw z at g.rest in
        record { rest = rw (p, q, add-one) (omega arith); most = omega arith }

    measuring_last : n ≤ i → m ≡ greatest (map f (range 0 n))
    unfolding range greatest
    measuring_last h =
        let z : n - i ≡ 0 = omega arith in
        let r : max m 0 ≡ greatest (map f (range 0 n)) = rw z at g.rest in
        omega arith

pub measuring_end : (l t x N : List ℕ) (m i : ℕ) → Measuring (line_cells l t x N) (length l) m i → length l ≤ i → m ≡ widest l t x N
unfolding widest
measuring_end l t x N m i g h = measuring_last (line_cells l t x N) (length l) m i g h
