-- What `to_for` answers. ws is the lent plan at entry, of which n words count, vs at exit.
--   ToFor l t x w n ws m vs    the first m words stand for `to_for` of the lines, at w
-- Assumes nothing.
use Rattle.std.specs.Prelude.{ℕ, ◌+◌, ◌≤◌, ◌≡◌, List, take}
use Rattle.definitions.specs.Model.{Line}
use Rattle.definitions.specs.ToFor.{to_for}
use Rattle.plan.specs.Plan.{render}
use Rattle.plan.specs.Changes.{Ahead}
use Rattle.plan.specs.Source.{Source}

pub record ToFor (l t x : List ℕ) (w n : ℕ) (ws : List ℕ) (m : ℕ) (vs : List ℕ) : Type 0 where
  pub fewer : m ≤ n
  pub ahead : Ahead (w + 1) (take m vs)
  pub lines : (S : List Line) → Source S l t x → render S (take m vs) ≡ to_for (render S (take n ws)) w
