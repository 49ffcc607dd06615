use lib.ListN.{take, length-set}
use native.Mathlib.Omega.{arith}
use borrow.Author.Rules.{rules}
use Rattle.write.proofs.Words.{copied_start}
use Rattle.write_run.proofs.Moving.{moved_next, moved_end}
use Rattle.write_run.proofs.move_words.Goals as goal

pub loop-j-init : goal.loop-j-init
loop-j-init c = (search rules, search rules, copied_start _ _ (omega arith))

pub moved-requires : goal.moved-requires
moved-requires c = let h = c.requires.by_index c.loop-j.j (search rules) in
    search (h, rules)

pub loop-j-preserved : goal.loop-j-preserved
loop-j-preserved c = let a = c.args in (
  search rules,
  simp length-set (omega arith),
  moved_next (take a.k a.words.now) a.run.now a.a a.b _ _ _ c.loop-j.invariant.2 _ c.moved.ensures (search rules) (search rules),
)

pub returns : goal.returns
returns c = let a = c.args in
    moved_end (take a.k a.words.now) a.run.now a.a a.b _ _ _ c.loop-j.invariant.2 (search rules) (search rules)
