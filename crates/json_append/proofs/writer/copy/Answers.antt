use lib.ListN.{take, length-set}
use native.Mathlib.Omega.{arith}
use borrow.Author.Rules.{rules}
use Rattle.write.proofs.Words.{copied_start, copied_next, copied_end}
use Rattle.json_append.proofs.writer.copy.Goals as goal

pub loop-j-init : goal.loop-j-init
loop-j-init c = (search rules, search rules, copied_start _ _ (omega arith))

pub loop-j-preserved : goal.loop-j-preserved
loop-j-preserved c = let a = c.args in
    (search rules, simp length-set (omega arith), copied_next (take a.at a.out.now) a.bytes.now _ _ _ c.loop-j.invariant.2 (search rules) (search rules))

pub returns : goal.returns
returns c = let a = c.args in
    copied_end (take a.at a.out.now) a.bytes.now _ _ _ c.loop-j.invariant.2 (search rules) (search rules)
