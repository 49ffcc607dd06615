-- The laws of the decoding. They hold of any columns whatever: no hypothesis, and every place.
--   start_next, start_zero, start_pred    where a piece starts
--   length_pieces, piece_at          the pieces of a column: as many as words, and piece k
--   length_listing, length_tokens    as many lines and tokens as words
--   token_at                         token k of all: the kind of its word, and its part of the text
--   line_at                          line i: the indent of its word, and its part of the tokens
--   line_length                      how many tokens line i has
--   line_token                       token j of line i is token line_start + j of all
--   line_past                        behind the last line stands no line
--   line_short, token_short          how many tokens and bytes a word of 32 bits can say
--   length_addresses, address_at     the lines with their addresses: how many, and the address of line i
-- Assumes nothing.
use mathlib.Core.Path.{◌≡◌, refl, ap, ◌∙◌}
use mathlib.Core.List.{List, [], ◌∷◌}
use Prim.Native.Nat.{ℕ, zero, suc, ◌+◌, ◌-◌, ◌/◌, ◌%◌, ◌≤◌, ◌<◌, min}
use native.Mathlib.Nat.{zero-div, zero-sub, not-suc-le-zero, le_of_suc-le-suc}
use native.Mathlib.Numerals.{sub-one}
use native.Mathlib.Decide.{dec_lt}
use native.Mathlib.Omega.{arith}
use lib.ListN.{length, get_or, get_or-eq_default}
use Rattle.definitions.specs.Lists.{part}
use Rattle.definitions.specs.Model.{Line, tok, no_token, no_line, token, line}
use Rattle.definitions.specs.Columns.{pieces, token_of, line_of, token_list, listing, address_of, with_addresses}
use Rattle.text.proofs.Parts.{length_part, part_get}
use Rattle.model.specs.Places.{start_from, token_start, line_start, line_end}

-- Starts

pub start_next : (by s w : ℕ) (ws : List ℕ) (k : ℕ) → start_from by (w / by) ws k ≡ start_from by s (w ∷ ws) (suc k)
unfolding start_from
start_next by s w ws zero = refl
start_next by s w ws (suc k) = refl

pub start_zero : (by s : ℕ) (ws : List ℕ) → start_from by s ws 0 ≡ s
unfolding start_from
start_zero by s ws = refl

pub start_pred : (by s : ℕ) (ws : List ℕ) (k : ℕ) → (k ≡ 0 → ⊥) → get_or ws (k - 1) 0 / by ≡ start_from by s ws k
unfolding start_from
start_pred by s ws zero h = absurd (h refl)
start_pred by s ws (suc k) h = rw sub-one

-- Pieces

module _ {A B : Type 0} (by : ℕ) (make : ℕ → List A → B) where
  pub length_pieces : (s : ℕ) (ws : List ℕ) (xs : List A) → length (pieces by make s ws xs) ≡ length ws
  unfolding pieces
  length_pieces s [] xs = refl
  length_pieces s (w ∷ ws) xs = ap suc (length_pieces (w / by) ws xs)

  -- what is made of the word 0 and nothing stands behind the last piece
  pub piece_at : (s : ℕ) (ws : List ℕ) (xs : List A) (k : ℕ)
      → get_or (pieces by make s ws xs) k (make 0 []) ≡ make (get_or ws k 0) (part (start_from by s ws k) (get_or ws k 0 / by) xs)
  unfolding pieces
  piece_at s [] xs k = rw (zero-div by, zero-sub (start_from by s [] k))
  piece_at s (w ∷ ws) xs zero = unfold start_from in refl
  piece_at s (w ∷ ws) xs (suc k) = piece_at (w / by) ws xs k ∙ rw (start_next by s w ws k)

pub length_listing : (l t x : List ℕ) → length (listing l t x) ≡ length l
length_listing l t x = length_pieces 512 line_of 0 l (token_list t x)

pub length_tokens : (t x : List ℕ) → length (token_list t x) ≡ length t
length_tokens t x = length_pieces 256 token_of 0 t x

pub token_at : (t x : List ℕ) (k : ℕ)
    → get_or (token_list t x) k no_token ≡ tok (part (token_start t k) (get_or t k 0 / 256) x) (get_or t k 0 % 256)
token_at t x k = piece_at 256 token_of 0 t x k

module _ (l t x : List ℕ) (i : ℕ) where
  pub line_at : line (listing l t x) i ≡ line_of (get_or l i 0) (part (line_start l i) (get_or l i 0 / 512) (token_list t x))
  line_at = piece_at 512 line_of 0 l (token_list t x) i

  pub line_length : length (line (listing l t x) i).tokens ≡ line_end l t i - line_start l i
  line_length = rw (line_at, length_part, length_tokens) (omega arith)

  pub line_token : (j : ℕ) → j < line_end l t i - line_start l i
      → token (line (listing l t x) i) j ≡ get_or (token_list t x) (line_start l i + j) no_token
  line_token j h = rw line_at (part_get no_token (token_list t x) (line_start l i) (get_or l i 0 / 512) j (omega arith))

  pub line_past : length l ≤ i → line (listing l t x) i ≡ no_line
  line_past h = get_or-eq_default (listing l t x) no_line (rw length_listing h)

-- Words of 32 bits

module _ (l t x : List ℕ) (i : ℕ) where
  pub line_short : get_or l i 0 < 4294967296 → length (line (listing l t x) i).tokens ≤ 8388607
  line_short h = omega (arith, line_length l t x i)

  pub token_short : ((k : ℕ) → get_or t k 0 < 4294967296) → (j : ℕ) → length (token (line (listing l t x) i) j).text ≤ 16777215
  token_short h j = go (dec_lt j (line_end l t i - line_start l i))
    where
      go : Dec (j < line_end l t i - line_start l i) → length (token (line (listing l t x) i) j).text ≤ 16777215
      go (yes g) =
          rw (line_token l t x i j g, token_at t x (line_start l i + j))
          (omega (arith, h (line_start l i + j), length_part x (token_start t (line_start l i + j)) (get_or t (line_start l i + j) 0 / 256)))
      go (no g) =
          let e : length (line (listing l t x) i).tokens ≤ j = omega (arith, line_length l t x i) in
          rw (get_or-eq_default (line (listing l t x) i).tokens no_token e) (omega arith)

-- Addresses

pub length_addresses : (l a : List ℕ) (L : List Line) → length (with_addresses l a L) ≡ min (length l) (min (length a) (length L))
unfolding with_addresses
length_addresses [] a L = omega arith
length_addresses (w ∷ ws) [] L = omega arith
length_addresses (w ∷ ws) (b ∷ rest) [] = omega arith
length_addresses (w ∷ ws) (b ∷ rest) (m ∷ ms) = omega (arith, length_addresses ws rest ms)

pub address_at : (l a : List ℕ) (L : List Line) (i : ℕ) → i < length l → i < length a → i < length L
    → (line (with_addresses l a L) i).address ≡ address_of (get_or l i 0) (get_or a i 0)
unfolding with_addresses
address_at [] a L i h k g = absurd (not-suc-le-zero h)
address_at (w ∷ ws) [] L i h k g = absurd (not-suc-le-zero k)
address_at (w ∷ ws) (b ∷ rest) [] i h k g = absurd (not-suc-le-zero g)
address_at (w ∷ ws) (b ∷ rest) (m ∷ ms) zero h k g = refl
address_at (w ∷ ws) (b ∷ rest) (m ∷ ms) (suc i) h k g =
    address_at ws rest ms i (le_of_suc-le-suc h) (le_of_suc-le-suc k) (le_of_suc-le-suc g)
