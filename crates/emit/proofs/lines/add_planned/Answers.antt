-- `emit::lines::add_planned` meets its contract. By the header.
-- Assumes nothing.
use mathlib.Core.Logic.{inl, inr}
use Rattle.definitions.specs.Columns.{listing}
use Rattle.emit.proofs.Planned.{begins_piece, begins_guard, begins_while, begins_for}
use Rattle.emit.proofs.lines.add_planned.Goals as goal

pub returns-in-NoHeader : goal.returns-in-NoHeader
returns-in-NoHeader c = let g = c.args in let C = listing g.code.now.lines.now g.code.now.tokens.now g.code.now.text.now in begins_piece C g.w c.requires.w_value c.in-NoHeader.ensures _ c.piece.ensures.0 c.add_plain.ensures

pub returns-in-While-Guard : goal.returns-in-While-Guard
returns-in-While-Guard c = let g = c.args in let C = listing g.code.now.lines.now g.code.now.tokens.now g.code.now.text.now in begins_guard C g.w c.requires.w_value _ c.in-While-Guard.ensures c.in-While-Guard.field-0-is _ c.source.ensures c.add_guard.ensures

pub add_while-requires : goal.add_while-requires
add_while-requires c = c.requires.text_value

pub returns-in-While-Always : goal.returns-in-While-Always
returns-in-While-Always c = let g = c.args in let C = listing g.code.now.lines.now g.code.now.tokens.now g.code.now.text.now in begins_while C g.w c.requires.w_value _ c.in-While-Always.ensures (inl c.in-While-Always.field-0-is) c.add_while.ensures

pub add_while-requires-in-While-Leading : goal.add_while-requires-in-While-Leading
add_while-requires-in-While-Leading c = c.requires.text_value

pub returns-in-While-Leading : goal.returns-in-While-Leading
returns-in-While-Leading c = let g = c.args in let C = listing g.code.now.lines.now g.code.now.tokens.now g.code.now.text.now in begins_while C g.w c.requires.w_value _ c.in-While-Leading.ensures (inr c.in-While-Leading.field-0-is) c.add_while-in-While-Leading.ensures

pub add_for_end-requires : goal.add_for_end-requires
add_for_end-requires c = c.requires.text_value

pub returns-in-For : goal.returns-in-For
returns-in-For c = let g = c.args in let C = listing g.code.now.lines.now g.code.now.tokens.now g.code.now.text.now in begins_for C g.w c.requires.w_value _ c.in-For.ensures c.add_for_start.ensures c.add_for_end.ensures
