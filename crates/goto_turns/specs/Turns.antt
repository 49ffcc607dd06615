-- What the turns of `recover_goto_loops` answer, as the definitions have it. ws is the lent plan at entry, of which n words count, vs at exit.
--   loop_at M h b              the turn at the label at h whose back edge is at b
--   turned S h vs r            the turn at place h that the answer r says
--   After n h vs r             what is known of the words then
--   TurnOf l t x f n h ws r vs    the answer r says what f gives of the lines
--   Emitted n vs r             the words that the pass answers, no more than n, have headers of this pass only
-- Assumes nothing.
use Rattle.std.specs.Prelude.{if◌then◌else◌, ℕ, ◌+◌, ◌≤◌, ◌≡◌, true, ◌&&◌, not, List, ltb, take, Result, Ok, Err}
use Rattle.definitions.specs.Lists.{all}
use Rattle.definitions.specs.Model.{Line}
use Rattle.definitions.specs.Passes.{Turn, go, beyond}
use Rattle.definitions.specs.RecoverGotoLoops.{enters, rewritten}
use Rattle.plan.specs.Plan.{render}
use Rattle.plan.specs.Changes.{is_goto, Ahead}
use Rattle.plan.specs.Source.{Source}
use Rattle.plan.specs.declared.Overflow.{Overflow}

-- what `looped` makes of the back edge
unfoldable pub loop_at : List Line → ℕ → ℕ → Turn
loop_at M h b = if ltb (h + 1) b && not (enters M h b) then rewritten M h b else go (h + 1) M

abbrev pub turned : List Line → ℕ → List ℕ → Result ℕ Overflow → Turn
turned S h vs (Ok m) = go (h + 1) (render S (take m vs))
turned S h vs (Err e) = beyond

abbrev pub After : ℕ → ℕ → List ℕ → Result ℕ Overflow → Type 0
After n h vs (Ok m) = (m ≤ n) × Ahead (h + 1) (take m vs)
After n h vs (Err e) = Unit {0}

pub record TurnOf (l t x : List ℕ) (f : List Line → Turn) (n h : ℕ) (ws : List ℕ) (r : Result ℕ Overflow) (vs : List ℕ) : Type 0 where
  pub after : After n h vs r
  pub turn : (S : List Line) → Source S l t x → turned S h vs r ≡ f (render S (take n ws))

abbrev pub Emitted : ℕ → List ℕ → Result ℕ Overflow → Type 0
Emitted n vs (Ok m) = (m ≤ n) × (all is_goto (take m vs) ≡ true)
Emitted n vs (Err e) = Unit {0}
