-- `append_pieces::tokens::add_jumped` meets its contract. Three pieces.
-- Assumes nothing.
use Rattle.definitions.specs.Columns.{listing}
use Rattle.definitions.specs.Model.{line}
use Rattle.append.proofs.Appends.{adds_as, adds_more}
use Rattle.append_pieces.proofs.Pieces.{jumped_parts, cut_within}
use Rattle.append_pieces.proofs.tokens.add_jumped.Goals as goal

pub add_first-requires : goal.add_first-requires
add_first-requires c = cut_within _ _ c.cut_place-n.ensures

pub returns : goal.returns
returns c = let g = c.args in adds_as (jumped_parts g.popped (line (listing g.code.now.lines.now g.code.now.tokens.now g.code.now.text.now) g.i) g.kw.now c.cut_place-n.result c.cut_place-n.ensures) (adds_more _ _ c.add_first.ensures (adds_more _ _ c.add.ensures c.add_last.ensures))
