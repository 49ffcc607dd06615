-- `bits::fill_row` meets its contract. Assumes nothing.
use mathlib.Core.Bool.{true}
use Rattle.bits.proofs.RowLaws.{run_bits}
use Rattle.bits.proofs.Words.{all_bits}
use Rattle.bits.proofs.fill_row.Goals as goal

pub returns : goal.returns
returns c = run_bits c.args.s.now c.fill.new.self c.args.w c.args.r 18446744073709551615 c.requires (c.fill.ensures.after (λ y e. e)) true (λ k h. all_bits k h)
