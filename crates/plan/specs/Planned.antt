-- What planning a pass answers: how many words count, or that an indent overflows. S is the listing that the pass was given.
--   planned S vs r    the pass that the answer r says, vs being the words
-- Assumes nothing.
use Rattle.std.specs.Prelude.{ℕ, List, take, Result, Ok, Err}
use Rattle.definitions.specs.Model.{Line}
use Rattle.definitions.specs.Passes.{Pass, lines, overflow}
use Rattle.plan.specs.Plan.{render}
use Rattle.plan.specs.declared.Overflow.{Overflow}

abbrev pub planned : List Line → List ℕ → Result ℕ Overflow → Pass
planned S vs (Ok n) = lines (render S (take n vs))
planned S vs (Err e) = overflow
