-- The lines that gotos cross, as the code keeps them: a word for each line, the last line that a goto joins it with, 0 for none.
--   goto i q                the goto from line i to line q
--   gotos i qs              the gotos from line i to the lines qs
--   line_gotos L i          the gotos of line i that lead to a label
--   crossed far k           a line before line k is joined with line k or a later one
--   Marked far₀ far js      far is far₀ with the gotos js
--   Marking far₀ far js ks  far with the gotos ks would be far₀ with the gotos js: ks are left to mark
-- Assumes nothing.
use Rattle.std.specs.Prelude.{ℕ, ◌≡◌, Bool, ◌||◌, List, map, leb, get_or}
use Rattle.definitions.specs.Lists.{any, up_to}
use Rattle.definitions.specs.Model.{Line}
use Rattle.definitions.specs.FlowGraph.{jumps}
use Rattle.definitions.specs.SplitPoints.{Jump, crosses}

abbrev pub goto : ℕ → ℕ → Jump
goto i q = record { source = i; target = q }

abbrev pub gotos : ℕ → List ℕ → List Jump
gotos i qs = map (goto i) qs

unfoldable pub line_gotos : List Line → ℕ → List Jump
line_gotos L i = gotos i (jumps L i)

unfoldable pub crossed : List ℕ → ℕ → Bool
crossed far k = any (λ a. leb k (get_or far a 0)) (up_to k)

pub record Marked (far₀ far : List ℕ) (js : List Jump) : Type 0 where
  pub at : (k : ℕ) → crossed far k ≡ (crossed far₀ k || any (crosses k) js)

pub record Marking (far₀ far : List ℕ) (js ks : List Jump) : Type 0 where
  pub at : (k : ℕ) → (crossed far k || any (crosses k) ks) ≡ (crossed far₀ k || any (crosses k) js)
