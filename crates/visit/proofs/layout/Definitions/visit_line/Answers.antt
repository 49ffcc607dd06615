use Rattle.std.proofs.Math.Bool.{or_comm}
use mathlib.Core.Path.{◌∙◌}
use Rattle.visit.proofs.LayoutLaws.{room_by}
use Rattle.visit.proofs.StepLaws.{visiting_ready, visiting_next, visit_made}
use borrow.Author.Rules.{rules}
use Rattle.visit.proofs.layout.Definitions.visit_line.Goals as goal

pub returns-then-self-eq1 : goal.returns-then-self-eq1
returns-then-self-eq1 c = rw c.if-self-eq1.true c.visit_word.ensures

pub given_word-x-requires : goal.given_word-x-requires
given_word-x-requires c = visiting_ready _ _ _ _ _ _ _ _ _ (room_by c.args.self.now.layout _ c.requires.0) c.loop-k.invariant.1 c.requires.1 c.loop-k.invariant.0 c.loop-k-test.true c.requires.2

pub loop-k-preserved : goal.loop-k-preserved
loop-k-preserved c = (c.put-c.auto.s ∙ c.loop-k.invariant.0, visiting_next _ _ _ _ _ _ _ _ _ (room_by c.args.self.now.layout _ c.requires.0) c.loop-k.invariant.1 c.requires.1 _ _ _ _ _ c.loop-k.invariant.0 c.loop-k-test.true c.outgoing-u.ensures.0 c.given_word-x.ensures c.put-c.ensures (or_comm c.loop-k.changed c.put-c.result))

pub returns : goal.returns
returns c = search (visit_made, rules)
