use borrow.Author.Rules.{rules}
use Rattle.memo.specs.Texts.{pack}
use Rattle.memo.proofs.slots.pack.Goals as goal

pub loop-b-init : goal.loop-b-init
unfolding pack
loop-b-init c = search rules
