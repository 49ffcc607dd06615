-- `goto_targets::seeking::seek_line` meets its contract. All tokens but the last, then that.
-- Assumes nothing.
use borrow.Author.Rules.{rules}
use Rattle.goto_targets.proofs.SeekRules.{ends}
use Rattle.goto_targets.proofs.seeking.seek_line.Goals as goal

pub returns : goal.returns
returns c = search (ends, rules)
