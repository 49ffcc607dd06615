use borrow.Author.Rules.{rules}
use Rattle.line_keywords.proofs.Filling.{masking}
use Rattle.line_keywords.proofs.mask.Goals as goal

pub returns : goal.returns
returns c = search (masking, rules)
