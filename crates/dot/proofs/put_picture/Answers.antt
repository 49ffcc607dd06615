use mathlib.Core.Path.{refl}
use Rattle.json_append.proofs.Appends.{wrote_2, wrote_3}
use Rattle.dot.proofs.Pictures.{picture_is}
use Rattle.dot.proofs.put_picture.Goals as goal

pub returns : goal.returns
returns c = wrote_3 _ _ _ c.put.ensures _ _ c.put_lines.ensures _ _ (wrote_2 _ _ _ c.put_edges.ensures _ _ c.put-2.ensures _ refl) _ (picture_is _ _ _ _ _)
