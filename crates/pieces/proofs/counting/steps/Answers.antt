-- `pieces::counting::steps` meets its contract. By the form of the piece.
-- Assumes nothing.
use borrow.Author.Rules.{rules}
use Rattle.pieces.proofs.CountingRules.{stepping}
use Rattle.pieces.proofs.counting.steps.Goals as goal

pub returns-in-Kept : goal.returns-in-Kept
returns-in-Kept c = search (stepping, c.in-Kept.ensures, rules)

pub returns-in-Continued : goal.returns-in-Continued
returns-in-Continued c = search (stepping, rules)
