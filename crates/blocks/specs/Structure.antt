-- The blocks of a listing as the code keeps them: two columns with an entry for each line.
--   blocks_of L             the blocks of L, none where a brace does not match
--   Ended L b es            es has the ends of the blocks b of L
--   Enclosed L b ps         ps has the innermost opener around each line
--   Matched L es ps r       r says whether every brace of L matches, and es and ps then have its blocks
-- Assumes nothing.
use Rattle.std.specs.Prelude.{ℕ, ◌+◌, ◌<◌, ◌≤◌, ◌≡◌, ◌≢◌, Bool, true, List, [], length, get_or}
use Rattle.definitions.specs.Lists.{is_some, or_else, member}
use Rattle.definitions.specs.Model.{Line}
use Rattle.definitions.specs.Blocks.{Blocks, blocks}
use Rattle.definitions.specs.FlowGraph.{end_of}
use Rattle.blocks.specs.Entries.{place, linked}

unfoldable pub blocks_of : List Line → Blocks
blocks_of L = or_else (blocks L) (record { ends = []; enclosing = [] })

-- a block ends on a later line
pub record Ended (L : List Line) (b : Blocks) (es : List ℕ) : Type 0 where
  pub ended : (i : ℕ) → i < length L → place (get_or es i 0) ≡ end_of b i
  pub later : (i : ℕ) → i < length L → get_or es i 0 ≢ 0 → (i + 1 < get_or es i 0) × (get_or es i 0 ≤ length L)

-- an opener around a line stands before it
pub record Enclosed (L : List Line) (b : Blocks) (ps : List ℕ) : Type 0 where
  pub inward : (i : ℕ) → i < length L → get_or ps i 0 ≤ i
  pub around : (i h : ℕ) → i < length L → member h (linked ps i (get_or ps i 0)) ≡ member h (get_or b.enclosing i [])

pub record Matched (L : List Line) (es ps : List ℕ) (r : Bool) : Type 0 where
  pub answer : r ≡ is_some (blocks L)
  pub ends : r ≡ true → Ended L (blocks_of L) es
  pub parents : r ≡ true → Enclosed L (blocks_of L) ps
