-- `json_write::sizes::head_size` meets its contract.
-- Assumes nothing.
use Rattle.json_write.proofs.LineRules.{lines_indent, lines_count}
use Rattle.json_write.proofs.SizeRules.{head_sized}
use Rattle.json_write.proofs.sizes.head_size.Goals as goal

pub returns : goal.returns
returns c = let a = c.args in
    let p = c.requires in
    let indented = lines_indent a.code.now.lines.now a.addresses.now a.code.now.tokens.now a.code.now.text.now p.1 a.i p.0 _ c.indent.ensures in
    let counted = lines_count a.code.now.lines.now a.addresses.now a.code.now.tokens.now a.code.now.text.now p.1 a.i p.0 _ c.token_count.ensures in
    head_sized _ _ _ _ _ _ _ c.address_of.ensures c.address_size-a.ensures indented c.decimal_size-d.ensures counted c.ends-e.ensures
