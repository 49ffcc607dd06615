-- `append_pieces::conditions::add_condition` meets its contract. Nothing, or the tokens of the condition.
-- Assumes nothing.
use mathlib.Core.Path.{sym}
use Rattle.append.proofs.Appends.{adds_none, adds_as}
use Rattle.append_pieces.proofs.Runs.{condition_nothing, condition_run, condition_inside}
use Rattle.append_pieces.proofs.conditions.add_condition.Goals as goal

pub add_run-requires : goal.add_run-requires
add_run-requires c = condition_inside _ _ c.condition.ensures.value _ c.in-Some.is c.condition.ensures.within

pub returns-in-Some : goal.returns-in-Some
returns-in-Some c = adds_as (condition_run _ _ c.condition.ensures.value _ c.in-Some.is c.condition.ensures.within) c.add_run.ensures

pub returns-in_default : goal.returns-in_default
returns-in_default c = adds_as (sym (condition_nothing _ _ c.condition.ensures.value c.in_default.is)) adds_none
