-- `labels::link` meets its contract. Assumes nothing.
use mathlib.Core.Path.{refl}
use mathlib.Core.Logic.{inl, inr}
use Rattle.labels.proofs.link.Goals as goal

pub returns-then-is_long : goal.returns-then-is_long
returns-then-is_long c = inr c.behind.ensures

pub returns-else-is_long : goal.returns-else-is_long
returns-else-is_long c = inl refl
