-- Rules for the needs of the functions that write edges.
--   next_yes, next_no                       a line is the next
--   down_is                                 to the next line
--   aside_later, aside_earlier              to another
--   edge_down, edge_aside, edge_none        what an edge is
--   edge_bit                                what is read of the graph
--   edges_are                               what a loop wrote
-- Assumes nothing.
use Rattle.std.specs.Prelude.{if◌then◌else◌}
use Prim.Native.Nat.{ℕ, ◌+◌, ◌*◌, ◌-◌, ◌≤◌, ◌<◌}
use mathlib.Core.Path.{◌≡◌, refl, sym}
use mathlib.Core.Bool.{Bool, true, false}
use mathlib.Core.List.{List, []}
use native.Mathlib.Decide.{ℕ_discrete}
use native.Mathlib.Omega.{arith}
use borrow.Author.Tests.{eq-eqb, ne_eqb, lt-ltb, le-ltb}
use lib.Dec.{eqb}
use Rattle.definitions.specs.Lists.{ascii}
use Rattle.bits.specs.Rows.{bit}
use Rattle.bits.specs.Edges.{succs}
use Rattle.json_append.proofs.Appends.{wrote_as, begun_start}
use Rattle.rows.proofs.RowRules.{rows_next}
use Rattle.rows.specs.Rows.{rows}
use Rattle.dot.specs.Dot.{arrow, down, aside, edge, edges}

pub next_yes : (i j : ℕ) → i < j → eqb (j - i) 1 ≡ eqb j (i + 1)
next_yes i j h = go (ℕ_discrete j (i + 1))
  where
    go : Dec (j ≡ i + 1) → eqb (j - i) 1 ≡ eqb j (i + 1)
    go (yes z) = rw (eq-eqb (j - i) 1 (omega arith), eq-eqb j (i + 1) z)
    go (no z) = rw (ne_eqb (j - i) 1 (λ q. z (omega arith)), ne_eqb j (i + 1) z)

pub next_no : (i j : ℕ) → j ≤ i → false ≡ eqb j (i + 1)
next_no i j h = sym (ne_eqb j (i + 1) (λ q. omega arith))

pub down_is : (b : Bool) (i j : ℕ) (s : List ℕ) → s ≡ (if b then ascii " [weight=9]\n" else ascii " [weight=9 style=invis]\n") → arrow i (ascii " -> ") j s ≡ down b i j
unfolding down
down_is true i j s q = rw q
down_is false i j s q = rw q

module _ (i j : ℕ) where
  pub aside_later : i < j → arrow i (ascii ":e -> ") j (ascii ":e\n") ≡ aside i j
  unfolding aside
  aside_later h = rw (lt-ltb i j h)

  pub aside_earlier : j ≤ i → arrow i (ascii ":w -> ") j (ascii ":w [penwidth=2]\n") ≡ aside i j
  unfolding aside
  aside_earlier h = rw (le-ltb i j h)

  module _ (b n : Bool) (next : n ≡ eqb j (i + 1)) where
    pub edge_down : n ≡ true → down b i j ≡ edge b i j
    unfolding edge
    edge_down h = rw (← next, h)

    pub edge_aside : n ≡ false → b ≡ true → aside i j ≡ edge b i j
    unfolding edge
    edge_aside h k = rw (← next, h, k)

    pub edge_none : n ≡ false → b ≡ false → [] ≡ edge b i j
    unfolding edge
    edge_none h k = rw (← next, h, k)

pub edge_bit : (l : List ℕ) (n i j : ℕ) (b : Bool) → b ≡ bit l ((n * 17 + i * 17) * 64 + j) → edge b i j ≡ edge (succs n 17 l i j) i j
unfolding succs
edge_bit l n i j b q = rw (← q)

pub edges_are : (f : ℕ → ℕ → Bool) (n : ℕ) → rows (λ i. rows (λ j. edge (f i j) i j) 0 n) 0 n ≡ edges f n
unfolding edges
edges_are f n = refl

pub ruleset edge_rules = (next_yes, next_no, wrote_as, aside_later, aside_earlier, edge_down, edge_aside, edge_none, begun_start, rows_next)
