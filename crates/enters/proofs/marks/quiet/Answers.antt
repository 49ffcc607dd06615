-- `enters::marks::quiet` meets its contract. By the form of the piece.
-- Assumes nothing.
use borrow.Author.Rules.{rules}
use Rattle.enters.specs.Marks.{quiet}
use Rattle.enters.proofs.marks.quiet.Goals as goal

pub returns-in-Continued : goal.returns-in-Continued
unfolding quiet
returns-in-Continued c = search rules
