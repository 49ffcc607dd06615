use Rattle.json_append.proofs.Appends.{begun_next, begun_then, begun_end}
use Rattle.json_append.proofs.StringRules.{run_next, run_none}
use Rattle.json_append.proofs.writer.Writer.put_characters.Goals as goal

pub loop-c-preserved : goal.loop-c-preserved
loop-c-preserved c =
    begun_next _ _ _ _ (begun_then _ _ _ _ c.loop-c.invariant _ _ c.put_plain-rest.ensures.begun) _ _ c.put_character.ensures _ (run_next _ _ _ c.in-Some.ensures.cases.0)

pub returns-in_default : goal.returns-in_default
returns-in_default c = begun_end _ _ _ _ (begun_then _ _ _ _ c.loop-c.invariant _ _ c.put_plain-rest.ensures.begun) (run_none _ c.in_default.ensures.cases)
