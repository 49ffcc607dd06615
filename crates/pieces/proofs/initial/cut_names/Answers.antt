use borrow.Author.Rules.{rules}
use Rattle.pieces.proofs.InitialRules.{cut_tokens}
use Rattle.pieces.proofs.initial.cut_names.Goals as goal

pub returns : goal.returns
returns c = search (cut_tokens, rules)
