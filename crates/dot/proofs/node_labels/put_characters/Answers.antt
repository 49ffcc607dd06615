use native.Mathlib.Omega.{arith}
use Rattle.json_append.proofs.Appends.{begun_next, begun_end}
use Rattle.dot.proofs.LabelRules.{characters_next, characters_none}
use Rattle.dot.proofs.node_labels.put_characters.Goals as goal

pub loop-c-preserved : goal.loop-c-preserved
loop-c-preserved c = begun_next _ _ _ _ c.loop-c.invariant _ _ c.put_character.ensures _ (characters_next c.args.s.now c.loop-c.c-index (omega arith))

pub returns : goal.returns
returns c = begun_end _ _ _ _ c.loop-c.invariant (characters_none c.args.s.now c.loop-c.c-index (omega arith))
