use mathlib.Core.Path.{sym}
use borrow.Author.Tests.{eqb-true}
use Rattle.std.proofs.lemmas.Bool.{eqb-false}
use Rattle.json_append.proofs.Appends.{wrote_as, wrote_3}
use Rattle.json_write.proofs.LineRules.{listing_none, listing_some}
use Rattle.json_write.proofs.lines.put_listing.Goals as goal

pub returns-then-is_empty : goal.returns-then-is_empty
returns-then-is_empty c = let a = c.args in
    wrote_as _ _ _ _ (listing_none a.code.now.lines.now a.addresses.now a.code.now.tokens.now a.code.now.text.now c.requires (eqb-true _ _ (sym c.if-is_empty.ensures))) c.put.ensures

pub returns : goal.returns
returns c = let a = c.args in
    wrote_3 _ _ _ c.put_byte.ensures _ _ c.put_line.ensures _ _ c.put_lines.ensures _ (listing_some a.code.now.lines.now a.addresses.now a.code.now.tokens.now a.code.now.text.now c.requires (eqb-false _ _ (sym c.if-is_empty.ensures)))
