-- `emit::lines::add_for_end` meets its contract. Four pieces.
-- Assumes nothing.
use Rattle.append.proofs.Appends.{adds_four}
use Rattle.definitions.specs.Columns.{listing}
use mathlib.Core.Path.{ap}
use Rattle.append.proofs.Appends.{adds_as}
use Rattle.pieces.specs.Pieces.{piece}
use Rattle.append_pieces.specs.Dressed.{dressed}
use mathlib.Core.Bool.{true}
use Rattle.emit.proofs.lines.add_for_end.Goals as goal

pub add_test-requires : goal.add_test-requires
add_test-requires c = c.requires

pub returns : goal.returns
returns c = let g = c.args in let C = listing g.code.now.lines.now g.code.now.tokens.now g.code.now.text.now in adds_four _ _ _ _ c.add_test.ensures c.add.ensures (adds_as (ap (λ p. dressed true (piece C p).tokens) c.step.ensures.0) c.add_piece.ensures) c.add-2.ensures
