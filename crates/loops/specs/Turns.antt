-- What the functions that change a plan answer, as the definitions have it. ws is the lent plan at entry, of which n words count, vs at exit.
--   ToFor l t x w n ws m vs       the first m words stand for `to_for` of the lines, at w
--   cleared ws i w                the guard at i made a while header, its do and its close at w gone
--   unwrapped_words ws i w        the same, the body moved out
--   Answer                        what a turn answers
--   turned S i vs r               the turn at place i that the answer r says
--   After n i ws vs r             what is known of the words then
--   TurnOf l t x f n i ws r vs   the answer r says what f gives of the lines
--   Emitted n vs r                its words are plain, and no more than n
-- Assumes nothing.
use Rattle.std.specs.Prelude.{ℕ, ◌+◌, ◌-◌, ◌≤◌, ◌≡◌, true, List, take, get_or, set, Option, None, Some, Result, Ok, Err}
use Rattle.definitions.specs.Lists.{all, remove, on_part}
use Rattle.definitions.specs.Model.{Line}
use Rattle.definitions.specs.ToFor.{to_for}
use Rattle.definitions.specs.Passes.{Turn, go, stop, beyond}
use Rattle.plan.specs.Plan.{render}
use Rattle.plan.specs.Changes.{is_plain, as_while, moved_out}
use Rattle.plan.specs.Source.{Source}
use Rattle.loops.specs.Words.{Ready}
use Rattle.plan.specs.declared.Overflow.{Overflow}

pub record ToFor (l t x : List ℕ) (w n : ℕ) (ws : List ℕ) (m : ℕ) (vs : List ℕ) : Type 0 where
  pub fewer : m ≤ n
  pub ready : Ready (w + 1) (take m vs)
  pub lines : (S : List Line) → Source S l t x → render S (take m vs) ≡ to_for (render S (take n ws)) w

unfoldable pub cleared : List ℕ → ℕ → ℕ → List ℕ
cleared ws i w = remove (i + 1) (remove w (set ws i (as_while (get_or ws i 0))))

abbrev pub unwrapped_words : List ℕ → ℕ → ℕ → List ℕ
unwrapped_words ws i w = on_part (i + 1) (w - 1) moved_out (cleared ws i w)

abbrev pub Answer : Type 0
Answer = Result (Option ℕ) Overflow

abbrev pub turned : List Line → ℕ → List ℕ → Answer → Turn
turned S i vs (Ok (Some m)) = go (i + 1) (render S (take m vs))
turned S i vs (Ok None) = stop
turned S i vs (Err e) = beyond

abbrev pub After : ℕ → ℕ → List ℕ → List ℕ → Answer → Type 0
After n i ws vs (Ok (Some m)) = (m ≤ n) × Ready (i + 1) (take m vs)
After n i ws vs (Ok None) = take n vs ≡ take n ws
After n i ws vs (Err e) = Unit {0}

pub record TurnOf (l t x : List ℕ) (f : List Line → Turn) (n i : ℕ) (ws : List ℕ) (r : Answer) (vs : List ℕ) : Type 0 where
  pub after : After n i ws vs r
  pub turn : (S : List Line) → Source S l t x → turned S i vs r ≡ f (render S (take n ws))

abbrev pub Emitted : ℕ → List ℕ → Result ℕ Overflow → Type 0
Emitted n vs (Ok m) = (m ≤ n) × (all is_plain (take m vs) ≡ true)
Emitted n vs (Err e) = Unit {0}
