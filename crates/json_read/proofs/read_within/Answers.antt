-- `json_read::read_within` meets its contract.
-- Assumes nothing.
use native.Mathlib.Omega.{arith}
use Rattle.json_definitions.specs.Parser.{array}
use Rattle.json_definitions.specs.Reader.{line}
use Rattle.json_listing.specs.InColumns.{closed}
use Rattle.json_read.proofs.Cut.{cut_read}
use Rattle.json_read.proofs.read_within.Goals as goal

pub returns : goal.returns
returns c = let a = c.args in
    let r = c.listing in
    cut_read (closed (array line a.s.now)) a.lines.now a.addresses.now a.tokens.now a.text.now c.min-a.result c.min-b.result c.min-c.result c.min-d.result 1024 1024 16384 262144
    (omega (arith, c.min-a.ensures)) (omega (arith, c.min-b.ensures)) (omega (arith, c.min-c.ensures)) (omega (arith, c.min-d.ensures))
    r.new.lines r.new.addresses r.new.tokens r.new.text
    r.auto.lines r.auto.addresses r.auto.tokens r.auto.text r.result r.ensures
