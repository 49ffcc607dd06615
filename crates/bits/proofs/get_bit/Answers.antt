-- `bits::get_bit` meets its contract. Assumes nothing.
use mathlib.Core.Path.{refl}
use Rattle.bits.specs.Rows.{word_bit, bit}
use Rattle.bits.proofs.get_bit.Goals as goal

pub returns : goal.returns
unfolding bit word_bit
returns c = refl
