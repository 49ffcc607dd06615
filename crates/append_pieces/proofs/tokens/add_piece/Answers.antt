-- `append_pieces::tokens::add_piece` meets its contract. By its form.
-- Assumes nothing.
use native.Mathlib.Omega.{arith}
use Rattle.definitions.specs.Columns.{listing}
use Rattle.append.proofs.Appends.{adds_as}
use Rattle.append_pieces.proofs.Pieces.{kept_dressed, continued_dressed, broken_dressed, closed_dressed}
use Rattle.append_pieces.proofs.tokens.add_piece.Goals as goal

pub add_first-requires : goal.add_first-requires
add_first-requires c = omega (arith, c.token_count.ensures)

pub returns-in-Kept : goal.returns-in-Kept
returns-in-Kept c = let g = c.args in let C = listing g.code.now.lines.now g.code.now.tokens.now g.code.now.text.now in adds_as (kept_dressed g.popped C g.p _ c.in-Kept.ensures _ c.token_count.ensures) c.add_first.ensures

pub returns-in-Continued : goal.returns-in-Continued
returns-in-Continued c = let g = c.args in let C = listing g.code.now.lines.now g.code.now.tokens.now g.code.now.text.now in adds_as (continued_dressed g.popped C g.p _ c.in-Continued.ensures) c.add_jumped.ensures

pub returns-in-Broken : goal.returns-in-Broken
returns-in-Broken c = let g = c.args in let C = listing g.code.now.lines.now g.code.now.tokens.now g.code.now.text.now in adds_as (broken_dressed g.popped C g.p _ c.in-Broken.ensures) c.add_jumped-in-Broken.ensures

pub returns-in-Closed : goal.returns-in-Closed
returns-in-Closed c = let g = c.args in let C = listing g.code.now.lines.now g.code.now.tokens.now g.code.now.text.now in adds_as (closed_dressed g.popped C g.p _ c.in-Closed.ensures) c.add_last.ensures
