-- The edges of a flow graph over n lines, as two matrices of bits in one list of words; a row has r words, and the last of them is its span.
--   row_words n         the words of a row: a bit for each line, and the span
--   Matrices n r l      both matrices have room in l, a row has a bit for each line and a word more, and no place of a bit overflows
--   edges n r l i j     line i steps to line j, as row j of the predecessors says: the words from 0 on
--   succs n r l i j     the same, as row i of the successors says: the words from n * r on
--   span_low, span_end  the two numbers that a span holds
--   Spanned n r l u     the bits of the row at word u lie in its span, which starts at one of them
--   Agree n r l         both matrices say the same, and their bits lie in the spans
--   preds_of n r l      the predecessor lists that the edges stand for
--   Widened s p s'      the span s' is s with bit p
--   Widen, Noted        what `widen` and `note` do
--   Between n l u x     what `row_span` answers: the bits of the row at word u lie in x
--   NoEdges, Added      what `no_edges` and `add_edge` do
-- Assumes nothing.
use Rattle.std.specs.Prelude.{ℕ, ◌+◌, ◌-◌, ◌*◌, ◌/◌, ◌%◌, ◌<◌, ◌≤◌, ◌≡◌, ◌≢◌, Bool, true, false, ◌&&◌, ◌||◌, List, map, eqb, length, get_or}
use Rattle.definitions.specs.Lists.{filter, up_to}
use Rattle.bits.specs.Rows.{bit, Away}
use Rattle.bits.specs.declared.Span.{Span}

abbrev pub row_words : ℕ → ℕ
row_words n = (n + 63) / 64 + 1

pub record Matrices (n r : ℕ) (l : List ℕ) : Type 0 where
  pub wide : n + 64 ≤ r * 64
  pub room : n * r + n * r ≤ length l
  pub small : n * r ≤ 65536

unfoldable pub edges : ℕ → ℕ → List ℕ → ℕ → ℕ → Bool
edges n r l i j = bit l (j * r * 64 + i)

unfoldable pub succs : ℕ → ℕ → List ℕ → ℕ → ℕ → Bool
succs n r l i j = bit l ((n * r + i * r) * 64 + j)

abbrev pub span_low : ℕ → ℕ
span_low s = s % 65536

abbrev pub span_end : ℕ → ℕ
span_end s = s / 65536

pub record Spanned (n r : ℕ) (l : List ℕ) (u : ℕ) : Type 0 where
  pub order : span_low (get_or l (u + r - 1) 0) ≤ span_end (get_or l (u + r - 1) 0)
  pub some : 0 < span_end (get_or l (u + r - 1) 0) → span_low (get_or l (u + r - 1) 0) < span_end (get_or l (u + r - 1) 0)
  pub within : span_end (get_or l (u + r - 1) 0) ≤ n
  pub tight : 0 < span_end (get_or l (u + r - 1) 0) → bit l (u * 64 + span_low (get_or l (u + r - 1) 0)) ≡ true
  pub inside : (p : ℕ) → p < n → bit l (u * 64 + p) ≡ true → (span_low (get_or l (u + r - 1) 0) ≤ p) × (p < span_end (get_or l (u + r - 1) 0))

pub record Agree (n r : ℕ) (l : List ℕ) : Type 0 where
  pub both : (i j : ℕ) → i < n → j < n → succs n r l i j ≡ edges n r l i j
  pub preds_in : (i : ℕ) → i < n → Spanned n r l (i * r)
  pub succs_in : (i : ℕ) → i < n → Spanned n r l (n * r + i * r)

unfoldable pub preds_of : ℕ → ℕ → List ℕ → List (List ℕ)
preds_of n r l = map (λ j. filter (λ i. edges n r l i j) (up_to n)) (up_to n)

pub record Widened (s p s' : ℕ) : Type 0 where
  pub new : span_low s ≤ span_end s → (span_low s' ≤ p) × (p < span_end s')
  pub old : (q : ℕ) → span_low s ≤ q → q < span_end s → (span_low s' ≤ q) × (q < span_end s')
  pub within : (n : ℕ) → p < n → span_end s ≤ n → span_end s' ≤ n
  pub least : (span_low s' ≡ p → ⊥) → (span_low s' ≡ span_low s) × (0 < span_end s)

pub record Widen (l₀ l : List ℕ) (v p : ℕ) : Type 0 where
  pub word : Widened (get_or l₀ v 0) p (get_or l v 0)
  pub others : (u : ℕ) → u ≢ v → get_or l u 0 ≡ get_or l₀ u 0

-- l is l₀ with bit p of the row at word u, and its span
pub record Noted (n r u p : ℕ) (l₀ l : List ℕ) : Type 0 where
  pub bits : (k : ℕ) → k < n → bit l (u * 64 + k) ≡ (bit l₀ (u * 64 + k) || eqb k p)
  pub spanned : Spanned n r l₀ u → Spanned n r l u
  pub outside : (v : ℕ) → Away v u r → get_or l v 0 ≡ get_or l₀ v 0

pub record Between (n : ℕ) (l : List ℕ) (u : ℕ) (x : Span) : Type 0 where
  pub low : u * 64 ≤ x.from
  pub order : x.from ≤ x.end
  pub high : x.end ≤ u * 64 + n
  pub first : x.from < x.end → bit l x.from ≡ true
  pub below : (p : ℕ) → p < n → u * 64 + p < x.from → bit l (u * 64 + p) ≡ false
  pub above : (p : ℕ) → p < n → x.end ≤ u * 64 + p → bit l (u * 64 + p) ≡ false

pub record NoEdges (n r : ℕ) (l₀ l : List ℕ) : Type 0 where
  pub none : (i j : ℕ) → i < n → j < n → edges n r l i j ≡ false
  pub agree : Agree n r l
  pub kept : (v : ℕ) → n * r + n * r ≤ v → get_or l v 0 ≡ get_or l₀ v 0

-- l is l₀ with the edge from p to q
pub record Added (n r p q : ℕ) (l₀ l : List ℕ) : Type 0 where
  pub edge : (i j : ℕ) → i < n → j < n → edges n r l i j ≡ (edges n r l₀ i j || (eqb i p && eqb j q))
  pub agree : Agree n r l₀ → Agree n r l
  pub kept : (v : ℕ) → n * r + n * r ≤ v → get_or l v 0 ≡ get_or l₀ v 0
