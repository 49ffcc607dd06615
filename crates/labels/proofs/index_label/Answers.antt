-- `labels::index_label` meets its contract. Assumes nothing.
use native.Mathlib.Omega.{arith}
use Rattle.definitions.specs.Columns.{listing}
use Rattle.model.proofs.Decode.{length_listing}
use Rattle.labels.proofs.Buckets.{indexed_label}
use Rattle.labels.proofs.index_label.Goals as goal

pub link-p-requires : goal.link-p-requires
link-p-requires c = omega (arith, c.requires.indexed.below c.bucket-b.result c.bucket-b.ensures.1, c.requires.i_in_bounds.2)

pub returns : goal.returns
returns c = let a = c.args in
    indexed_label (listing a.code.now.lines.now a.code.now.tokens.now a.code.now.text.now) a.heads.now a.nexts.now a.i c.requires.indexed
    (omega (arith, c.requires.i_in_bounds.0, length_listing a.code.now.lines.now a.code.now.tokens.now a.code.now.text.now)) (omega arith)
    c.requires.i_value c.bucket-b.result _ c.bucket-b.ensures.0 c.text_at-s.ensures c.requires.i_in_bounds.1 c.link-p.result c.link-p.ensures
