-- `bits::clear_row` meets its contract. Assumes nothing.
use mathlib.Core.Bool.{false}
use Rattle.bits.proofs.RowLaws.{run_words, run_bits}
use Rattle.bits.proofs.Words.{zero_bit}
use Rattle.bits.proofs.clear_row.Goals as goal

pub returns-clause-filled : goal.returns-clause-filled
returns-clause-filled c = run_bits c.args.s.now c.fill.new.self c.args.w c.args.r 0 c.requires (c.fill.ensures.after (λ y e. e)) false (λ k h. zero_bit k)

pub returns-clause-zero : goal.returns-clause-zero
returns-clause-zero c = run_words c.args.s.now c.fill.new.self c.args.w c.args.r 0 c.requires (c.fill.ensures.after (λ y e. e))
