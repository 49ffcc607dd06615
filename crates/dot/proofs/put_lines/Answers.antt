use Rattle.json_append.proofs.Appends.{wrote_as}
use Rattle.dot.proofs.Pictures.{nodes_are}
use Rattle.dot.proofs.put_lines.Goals as goal

pub returns : goal.returns
returns c = wrote_as _ _ _ _ (nodes_are _ _ _ _ _ c.widest.ensures.value) c.put_nodes.ensures
