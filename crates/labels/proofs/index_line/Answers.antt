-- `labels::index_line` meets its contract. By the test for a label. Assumes nothing.
use mathlib.Core.Path.{sym, ◌∙◌}
use native.Mathlib.Omega.{arith}
use Rattle.definitions.specs.Columns.{listing}
use Rattle.model.proofs.Decode.{length_listing}
use Rattle.labels.proofs.Buckets.{indexed_other}
use Rattle.labels.proofs.index_line.Goals as goal

pub index_label-requires : goal.index_label-requires
index_label-requires c = record { i_in_bounds = c.requires.i_in_bounds; i_value = sym c.has_label.ensures ∙ c.if-has_label.true; indexed = c.requires.indexed }

pub returns-else-has_label : goal.returns-else-has_label
returns-else-has_label c = let a = c.args in
    indexed_other (listing a.code.now.lines.now a.code.now.tokens.now a.code.now.text.now) a.heads.now a.nexts.now a.i c.requires.indexed
    (omega (arith, c.requires.i_in_bounds.0, length_listing a.code.now.lines.now a.code.now.tokens.now a.code.now.text.now)) (omega arith)
    c.has_label.result c.has_label.ensures c.if-has_label.false
