-- `negate::adding::add_flipped` meets its contract. A text for each.
-- Assumes nothing.
use Rattle.negate.specs.Comparisons.{named}
use Rattle.negate.specs.declared.comparison.Comparison.TheVariants.{Equal, Unequal, AtMost, AtLeast, Less, Greater}
use Rattle.negate.proofs.Appends.{flipped_arm}
use Rattle.negate.proofs.adding.add_flipped.Goals as goal

pub returns-in-Equal : goal.returns-in-Equal
unfolding named
returns-in-Equal c = flipped_arm _ Equal c.in-Equal.is c.add_bytes.ensures

pub returns-in-Unequal : goal.returns-in-Unequal
unfolding named
returns-in-Unequal c = flipped_arm _ Unequal c.in-Unequal.is c.add_bytes-in-Unequal.ensures

pub returns-in-AtMost : goal.returns-in-AtMost
unfolding named
returns-in-AtMost c = flipped_arm _ AtMost c.in-AtMost.is c.add_bytes-in-AtMost.ensures

pub returns-in-AtLeast : goal.returns-in-AtLeast
unfolding named
returns-in-AtLeast c = flipped_arm _ AtLeast c.in-AtLeast.is c.add_bytes-in-AtLeast.ensures

pub returns-in-Less : goal.returns-in-Less
unfolding named
returns-in-Less c = flipped_arm _ Less c.in-Less.is c.add_bytes-in-Less.ensures

pub returns-in-Greater : goal.returns-in-Greater
unfolding named
returns-in-Greater c = flipped_arm _ Greater c.in-Greater.is c.add_bytes-in-Greater.ensures
