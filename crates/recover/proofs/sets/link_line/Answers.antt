-- `recover::sets::link_line` meets its contract. By its calls.
-- Assumes nothing.
use mathlib.Core.Path.{sym}
use native.Mathlib.Omega.{arith}
use lib.Seq.{length-take-le}
use Rattle.recover.proofs.LinkReads.{links_one}
use Rattle.recover.proofs.sets.link_line.Goals as goal

pub slice_bounds-link-end-2 : goal.slice_bounds-link-end-2
slice_bounds-link-end-2 c = sym (length-take-le c.reaching-m.result _ (omega (arith, c.reaching-m.ensures.few, c.reaching-m.auto.set, c.requires.2.sized.room)))

pub returns : goal.returns
returns c = links_one _ _ _ _ _ _ _ _ _ c.requires.0 c.requires.2 _ _ _ _ c.reaching-m.auto.space c.reaching-m.ensures c.link.ensures
