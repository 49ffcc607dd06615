use mathlib.Core.Path.{refl}
use Rattle.json_append.proofs.Appends.{wrote_nothing, wrote_as}
use Rattle.dot.proofs.Pictures.{dot_drawn, dot_none}
use Rattle.dot.proofs.put_drawn.Goals as goal

pub returns-in-Ok : goal.returns-in-Ok
returns-in-Ok c = wrote_as _ _ _ _ (dot_drawn _ _ _ _ _ _ _ c.requires (c.in-Ok.ensures.fact refl)) c.put_picture.ensures

pub returns-in-Err : goal.returns-in-Err
returns-in-Err c = wrote_as _ _ _ _ (dot_none _ _ _ _ _ c.in-Err.ensures.result_value) (wrote_nothing _)
