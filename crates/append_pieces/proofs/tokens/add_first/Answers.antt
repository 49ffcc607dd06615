use Rattle.definitions.specs.Model.{line}
use Rattle.definitions.specs.Columns.{listing}
use Rattle.append_pieces.proofs.Runs.{left_start}
use Rattle.append_pieces.proofs.Lines.{line_goes, line_ends}
use Rattle.append_pieces.proofs.tokens.add_first.Goals as goal

pub loop-j-init : goal.loop-j-init
loop-j-init c = left_start

pub dressed_text-s-requires : goal.dressed_text-s-requires
dressed_text-s-requires c = (c.loop-j-test.true, c.requires)

pub add-requires : goal.add-requires
add-requires c = c.kind_at-kind.ensures.1

pub loop-j-preserved : goal.loop-j-preserved
loop-j-preserved c = let g = c.args in
    let i = c.loop-j.invariant in
    line_goes g.popped (line (listing g.code.now.lines.now g.code.now.tokens.now g.code.now.text.now) g.i).tokens g.n c.requires _ i c.loop-j-test.true _ _ c.dressed_text-s.ensures c.kind_at-kind.ensures.0 c.add.ensures

pub returns : goal.returns
returns c = let g = c.args in
    line_ends g.popped (line (listing g.code.now.lines.now g.code.now.tokens.now g.code.now.text.now) g.i).tokens g.n c.requires _ c.loop-j.invariant c.loop-j-test.false
