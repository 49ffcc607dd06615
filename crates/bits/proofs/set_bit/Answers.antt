-- `bits::set_bit` meets its contract. Assumes nothing.
use Rattle.bits.proofs.RowLaws.{set_one}
use borrow.Author.Rules.{rules}
use Rattle.bits.proofs.set_bit.Goals as goal

pub returns : goal.returns
returns c = set_one _ _ (search rules)
