-- `blocks::enter` meets its contract. By the number of blocks. Assumes nothing.
use mathlib.Core.Path.{refl}
use borrow.Author.Tests.{lt-ltb, le-ltb}
use Rattle.blocks.proofs.enter.Goals as goal

pub returns-then-k-gt0 : goal.returns-then-k-gt0
returns-then-k-gt0 c = record { value = rw (lt-ltb 0 c.args.k c.if-k-gt0.true); ends_after = refl; parents_after = refl; counts_after = refl }

pub returns-else-k-gt0 : goal.returns-else-k-gt0
returns-else-k-gt0 c = record { value = rw (le-ltb 0 c.args.k c.if-k-gt0.false); ends_after = refl; parents_after = refl; counts_after = refl }
