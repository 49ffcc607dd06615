use mathlib.Core.Path.{refl, ◌∙◌}
use lib.ListN.{length}
use Rattle.theory.proofs.ListLaws.{replicate_default}
use Rattle.labels.proofs.index.Goals as goal

pub loop-init : goal.loop-init
loop-init c = (refl, refl, λ b h. c.requires.by_index b)

pub returns-then-index_all : goal.returns-then-index_all
returns-then-index_all c = c.index_all.ensures.indexed c.if-index_all.true

pub loop-preserved : goal.loop-preserved
loop-preserved c = let l = c.loop in
    let a = c.index_all in
    let e = c.fill.ensures.after (λ y z. z) in
    (c.fill.ensures.len ∙ a.auto.heads ∙ l.invariant.0, a.auto.nexts ∙ l.invariant.1, λ b h. rw e (replicate_default (length a.new.heads) b 0))

pub returns : goal.returns
returns c = c.index_all-2.ensures.indexed (c.index_all-2.ensures.value refl)
