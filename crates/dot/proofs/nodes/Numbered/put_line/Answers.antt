use Rattle.json_append.proofs.Appends.{wrote_2}
use Rattle.dot.proofs.NodeRules.{line_is}
use Rattle.dot.proofs.nodes.Numbered.put_line.Goals as goal

pub returns : goal.returns
returns c = wrote_2 _ _ _ c.put_blanks.ensures _ _ c.put_tokens.ensures _ (line_is _ _ _ _ _ _ c.indent.ensures)
