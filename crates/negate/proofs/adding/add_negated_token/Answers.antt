-- `negate::adding::add_negated_token` meets its contract. Three pieces of one token.
-- Assumes nothing.
use Rattle.negate.proofs.Appends.{adds_flipped}
use Rattle.negate.proofs.adding.add_negated_token.Goals as goal

pub end_merged-requires : goal.end_merged-requires
end_merged-requires c = c.requires

pub returns : goal.returns
returns c = let a = c.args in
    adds_flipped a.s.now a.kind a.f c.part.result.now c.part-rest.result.now c.part-2.result.now
    c.part.ensures c.part-rest.ensures c.width.result c.width.ensures c.part-2.ensures
    c.add_bytes.ensures c.add_flipped.ensures c.add_bytes-2.ensures c.end_merged.ensures
