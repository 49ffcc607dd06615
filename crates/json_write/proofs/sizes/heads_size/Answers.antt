use borrow.Author.Rules.{rules}
use native.Mathlib.Omega.{arith}
use Rattle.json_write.specs.Sizes.{head_size}
use Rattle.json_write.proofs.LineRules.{length_lines}
use Rattle.json_append.proofs.Sums.{counted_start}
use Rattle.json_write.proofs.SizeRules.{heads_next, heads_end}
use Rattle.json_write.proofs.sizes.heads_size.Goals as goal

pub loop-i-init : goal.loop-i-init
loop-i-init c = counted_start head_size 75 _

pub loop-i-preserved : goal.loop-i-preserved
loop-i-preserved c = search (heads_next, rules)

pub returns : goal.returns
returns c = let a = c.args in
    let m = length_lines a.code.now.lines.now a.addresses.now a.code.now.tokens.now a.code.now.text.now c.requires.1 in
    record { is = heads_end a.code.now.lines.now a.addresses.now a.code.now.tokens.now a.code.now.text.now c.requires.1 _ _ c.loop-i.invariant (omega arith); most = omega arith }
