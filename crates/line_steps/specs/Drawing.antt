-- Edges drawn into the two matrices of Rattle.bits.
--   Drawn n r l₀ l f         l is l₀ with the edges f
--   Drawing n r l₀ l f g     l with the edges g would be l₀ with the edges f: g is left to draw
--   from i xs                the edges from line i to the lines xs
--   left L b h               where a break or continue in the block that line h opens steps to, b being the blocks of L
--   lefts L b hs             the same of the blocks that the lines hs open
--   back L b h               the edges that lead back to line h
--   own L b i                where line i steps to, other than back
--   line_edges L b i         the edges that line i draws: its own, and those that lead back to it
--   rest L b i               the edges that lines i, i + 1, .. draw
-- Assumes nothing.
use Rattle.std.specs.Prelude.{if◌then◌else◌, ℕ, ◌+◌, ◌*◌, ◌<◌, ◌≤◌, ◌≡◌, Bool, ◌&&◌, ◌||◌, List, [], ◌∷◌, ◌++◌, map, eqb, leb, get_or}
use Rattle.definitions.specs.Lists.{concat, member}
use Rattle.definitions.specs.Model.{Line, line}
use Rattle.definitions.specs.Blocks.{Blocks}
use Rattle.definitions.specs.FlowGraph.{is_loop, is_switch, falls, past_end, loops_back, cases, jumps, leaves}
use Rattle.bits.specs.Edges.{edges, Agree}

pub record Drawing (n r : ℕ) (l₀ l : List ℕ) (f g : ℕ → ℕ → Bool) : Type 0 where
  pub edge : (i j : ℕ) → i < n → j < n → (edges n r l i j || g i j) ≡ (edges n r l₀ i j || f i j)
  pub agree : Agree n r l₀ → Agree n r l
  pub kept : (v : ℕ) → n * r + n * r ≤ v → get_or l v 0 ≡ get_or l₀ v 0

pub record Drawn (n r : ℕ) (l₀ l : List ℕ) (f : ℕ → ℕ → Bool) : Type 0 where
  pub edge : (i j : ℕ) → i < n → j < n → edges n r l i j ≡ (edges n r l₀ i j || f i j)
  pub agree : Agree n r l₀ → Agree n r l
  pub kept : (v : ℕ) → n * r + n * r ≤ v → get_or l v 0 ≡ get_or l₀ v 0

abbrev pub from : ℕ → List ℕ → ℕ → ℕ → Bool
from i xs p q = eqb p i && member q xs

unfoldable pub left : List Line → Blocks → ℕ → List ℕ
left L b h = if is_loop (line L h) || is_switch (line L h) then h ∷ past_end b h else []

unfoldable pub lefts : List Line → Blocks → List ℕ → List ℕ
lefts L b hs = concat (map (left L b) hs)

abbrev pub back : List Line → Blocks → ℕ → ℕ → ℕ → Bool
back L b h p q = eqb q h && member q (loops_back L b p)

unfoldable pub own : List Line → Blocks → ℕ → List ℕ
own L b i = falls L b i ++ past_end b i ++ cases L b i ++ jumps L i ++ leaves L b i

abbrev pub line_edges : List Line → Blocks → ℕ → ℕ → ℕ → Bool
line_edges L b i p q = from i (own L b i) p q || back L b i p q

unfoldable pub rest : List Line → Blocks → ℕ → ℕ → ℕ → Bool
rest L b i p q = (leb i p && member q (own L b p)) || (leb i q && member q (loops_back L b p))
