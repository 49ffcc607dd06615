use mathlib.Core.Path.{◌≡◌, refl, sym, ◌∙◌}
use mathlib.Core.Bool.{false≢true}
use native.Mathlib.Omega.{arith}
use lib.ListN.{length, length-set}
use Rattle.definitions.specs.Columns.{listing}
use Rattle.labels.proofs.Buckets.{indexed_start}
use borrow.Author.Rules.{rules}
use Rattle.labels.proofs.index_all.Goals as goal

pub loop-i-init : goal.loop-i-init
loop-i-init c = let a = c.args in
    (search rules, refl, refl, indexed_start (listing a.code.now.lines.now a.code.now.tokens.now a.code.now.text.now) a.heads.now a.nexts.now a.m _ c.size-c.ensures.0 c.requires.by_index)

pub index_line-requires : goal.index_line-requires
index_line-requires c = let z = simp length-set at c.loop-i.invariant.1 in search rules

pub returns-then-more : goal.returns-then-more
returns-then-more c = record { indexed = λ e. absurd (false≢true e); value = λ e. absurd (false≢true (sym e ∙ c.if-more.true)) }

pub loop-i-preserved : goal.loop-i-preserved
loop-i-preserved c = let l = c.loop-i in
    let a = c.index_line in
    (search rules, a.auto.heads ∙ l.invariant.1, a.auto.nexts ∙ l.invariant.2, a.ensures)

pub returns : goal.returns
returns c = let l = c.loop-i in
    let a = c.args in
    let e : l.i ≡ length a.code.now.lines.now = omega arith in record { indexed = λ h. rw (← e) l.invariant.3; value = λ h. refl }
