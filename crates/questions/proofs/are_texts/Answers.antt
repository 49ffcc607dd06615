use borrow.Author.Rules.{rules}
use Rattle.text.proofs.Loops.{loops}
use Rattle.questions.proofs.Asked.{asked}
use Rattle.questions.proofs.are_texts.Goals as goal

pub returns-then-not-is_text : goal.returns-then-not-is_text
returns-then-not-is_text c = search (loops, asked, rules)

pub returns : goal.returns
returns c = search (loops, asked, rules)
