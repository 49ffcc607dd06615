-- Where the rows of one family stand in the working space, for n lines, r words a row of lines and w words a row of definitions.
--   base n r            the first word of the outgoing rows, one of w words for each line
--   making n r w        the first word of the row in the making
--   Fits n r w l        the words l have room for all
--   Room n r w l        the words l have room for all, a row of lines has a bit for each line and a word more, and no place of a bit overflows
--   outs n r w l b j    bit b of the outgoing row of line j
--   todo, next          line j is to be visited in this sweep, in the next
--   Kept n r w l₀ l     l is l₀ but for the two lists of lines, the outgoing rows and the row in the making
-- Assumes nothing.
use Rattle.std.specs.Prelude.{ℕ, ◌+◌, ◌*◌, ◌<◌, ◌≤◌, ◌≡◌, Bool, ◌&&◌, List, ltb, length, get_or}
use Rattle.bits.specs.Rows.{bit, Away}

abbrev pub base : ℕ → ℕ → ℕ
base n r = n * r + n * r + r + r

abbrev pub making : ℕ → ℕ → ℕ → ℕ
making n r w = n * r + n * r + r + r + n * w

abbrev pub Fits : ℕ → ℕ → ℕ → List ℕ → Type 0
Fits n r w l = n * r + n * r + r + r + n * w + w ≤ length l

pub record Room (n r w : ℕ) (l : List ℕ) : Type 0 where
  pub lines : 0 < n
  pub some : 0 < w
  pub wide : n + 64 ≤ r * 64
  pub room : n * r + n * r + r + r + n * w + w ≤ length l
  pub small : n * r + n * r + r + r + n * w + w ≤ 65536

unfoldable pub outs : ℕ → ℕ → ℕ → List ℕ → ℕ → ℕ → Bool
outs n r w l b j = ltb j n && bit l ((base n r + j * w) * 64 + b)

unfoldable pub todo : ℕ → ℕ → List ℕ → ℕ → Bool
todo n r l j = bit l ((n * r + n * r) * 64 + j)

unfoldable pub next : ℕ → ℕ → List ℕ → ℕ → Bool
next n r l j = bit l ((n * r + n * r + r) * 64 + j)

unfoldable pub Kept : ℕ → ℕ → ℕ → List ℕ → List ℕ → Type 0
Kept n r w l₀ l = (v : ℕ) → Away v (n * r + n * r) (r + r + n * w + w) → get_or l v 0 ≡ get_or l₀ v 0
