use Rattle.json_append.proofs.Appends.{wrote_5}
use Rattle.json_write.proofs.LineRules.{lines_indent, head_is}
use Rattle.json_write.proofs.lines.put_head.Goals as goal

pub returns : goal.returns
returns c = let a = c.args in
    let d = lines_indent a.code.now.lines.now a.addresses.now a.code.now.tokens.now a.code.now.text.now c.requires.1 _ c.requires.0 _ c.indent.ensures in
    wrote_5 _ _ _ c.put.ensures _ _ c.put_address.ensures _ _ c.put-2.ensures _ _ c.put_decimal.ensures _ _ c.put-3.ensures _ (head_is _ _ _ c.address_of.ensures d)
