use Rattle.json_append.proofs.Appends.{wrote_3}
use Rattle.json_write.proofs.LineRules.{lines_tokens, line_is}
use Rattle.json_write.proofs.lines.put_line.Goals as goal

pub returns : goal.returns
returns c = let a = c.args in
    let ts = lines_tokens a.code.now.lines.now a.addresses.now a.code.now.tokens.now a.code.now.text.now c.requires.1 _ c.requires.0 _ _ c.line_start.ensures c.line_end.ensures in
    wrote_3 _ _ _ c.put_head.ensures _ _ c.put_token_array.ensures _ _ c.put_byte.ensures _ (line_is _ _ ts)
