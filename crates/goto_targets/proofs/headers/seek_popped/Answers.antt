-- `goto_targets::headers::seek_popped` meets its contract. By the form of the piece.
-- Assumes nothing.
use borrow.Author.Rules.{rules}
use Rattle.goto_targets.proofs.HeaderRules.{pops}
use Rattle.goto_targets.proofs.headers.seek_popped.Goals as goal

pub returns-in-Kept : goal.returns-in-Kept
returns-in-Kept c = search (pops, c.in-Kept.ensures, rules)

pub returns-in-Continued : goal.returns-in-Continued
returns-in-Continued c = search (pops, rules)
